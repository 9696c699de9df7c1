-- Slots of hashes.
use Rattle.std.specs.Prelude.{ℕ, ◌==◌, if◌then◌else◌, Option, Some, None}

-- the entry in a slot of hashes; 0 is a free slot
abbrev pub hash_entry : ℕ → Option ℕ
hash_entry h = if h == 0 then None else Some h
