-- The effects of commands on a table of hashes, and the replies to them.
use Rattle.std.specs.Prelude.{ℕ, ◌≡◌, ◌≤◌, ◌^◌, List, [], ◌∷◌, length, take, is_some}
use Rattle.core_laws.specs.Cuts.{Retained, cut, none_below}
use Rattle.core_laws.specs.Entries.{hash_key, hash_step}
use Rattle.core_laws.specs.Insertion.{after_upsert, creates}
use Rattle.core_laws.specs.Maps.{entry_at}
use Rattle.core_table.specs.HashTable.{MapTable}
use Rattle.theta_tables.specs.declared.command.TableCommand.{TableCommand}
use Rattle.theta_tables.specs.declared.command.TableCommand.TheVariants.{Insert, Find, Trim, Reset}
use Rattle.theta_tables.specs.declared.command.TableReply.{TableReply}
use Rattle.theta_tables.specs.declared.command.TableReply.TheVariants.{Inserted, Found, Done}

-- the retained hashes after a command
abbrev pub after_command : (k start : ℕ) → TableCommand → Retained ℕ → Retained ℕ
after_command k start (Insert h) v = after_upsert hash_key k h (hash_step h) v
after_command k start (Find h) v = v
after_command k start Trim v = cut hash_key k v.entries v.theta
after_command k start Reset v = none_below start

-- the retained hashes after commands, in turn
abbrev pub after_commands : (k start : ℕ) → List TableCommand → Retained ℕ → Retained ℕ
after_commands k start [] v = v
after_commands k start (c ∷ cs) v = after_commands k start cs (after_command k start c v)

-- the reply that reports the state
abbrev pub done : Retained ℕ → TableReply
done v = Done (length v.entries) v.theta

-- the reply to a command: for an insertion and a search by the hashes retained before, for a trim and a reset by those
-- after
abbrev pub reply : (k start : ℕ) → TableCommand → Retained ℕ → TableReply
reply k start (Insert h) v = Inserted (creates hash_key h (hash_step h) v)
reply k start (Find h) v = Found (is_some (entry_at hash_key v.entries h))
reply k start Trim v = done (after_command k start Trim v)
reply k start Reset v = done (after_command k start Reset v)

-- the replies to commands, in turn
abbrev pub replies : (k start : ℕ) → List TableCommand → Retained ℕ → List TableReply
replies k start [] v = []
replies k start (c ∷ cs) v = reply k start c v ∷ replies k start cs (after_command k start c v)

-- the second table is the first after some first commands
pub record IsAfterBeginning (commands : List TableCommand) (old new : MapTable ℕ) : Type 0 where
  pub count : ℕ
  pub within : count ≤ length commands
  pub is : new ≡ record old { kept = after_commands (2 ^ old.lg_nom) old.start (take count commands) old.kept }
