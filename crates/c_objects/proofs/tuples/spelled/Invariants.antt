use Rattle.std.proofs.Common.{take}
use Rattle.core_images.specs.Entry.{SpellsHash, SpellsEach}
use Rattle.c_objects.proofs.tuples.spelled.Given as goal

-- the bytes spell the hashes so far
abbrev pub invariant-loop-hash : goal.invariant-loop-hash
invariant-loop-hash l = SpellsEach SpellsHash l.bytes.bytes (take l.hash-index l.hashes)
