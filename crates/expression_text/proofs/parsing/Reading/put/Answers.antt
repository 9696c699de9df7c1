use Rattle.expression_text.proofs.parsing.Reading.put.Goals as goal

pub returns-in-Name-clause-reads : goal.returns-in-Name-clause-reads
returns-in-Name-clause-reads g c = rw c.in-Name.is c.put_name.ensures.reads

pub returns-in-Sign-clause-reads : goal.returns-in-Sign-clause-reads
returns-in-Sign-clause-reads g c = rw c.in-Sign.is c.put_sign.ensures.reads

pub returns-in-Opening-clause-reads : goal.returns-in-Opening-clause-reads
returns-in-Opening-clause-reads g c = rw c.in-Opening.is c.open.ensures.reads

pub returns-in-Closing-clause-reads : goal.returns-in-Closing-clause-reads
returns-in-Closing-clause-reads g c = rw c.in-Closing.is c.close.ensures.reads

pub returns-in-Closing-clause-refused : goal.returns-in-Closing-clause-refused
returns-in-Closing-clause-refused g c = rw c.in-Closing.is c.close.ensures.refused
