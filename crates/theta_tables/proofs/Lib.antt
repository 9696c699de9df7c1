pub mod CommandsInTurn
