-- What a reader that reads blocks ahead has left.
use Rattle.std.specs.Prelude.{ℕ, List, drop, take, Option}
use Rattle.std.specs.Io.KnownBytes.{prepend_known}
use Rattle.keys_fields.specs.declared.ahead.Ahead.{Ahead}

-- the bytes of the block that aren't read past
abbrev pub shown_of : {R : Type 0} → Ahead R → List ℕ
shown_of ahead = drop ahead.start (take ahead.end ahead.block.items)

-- the bytes that are left, if they are known
abbrev pub ahead_remaining : {R : Type 0} → (remaining : R → Option (List ℕ)) → Ahead R → Option (List ℕ)
ahead_remaining remaining ahead = prepend_known (shown_of ahead) (remaining ahead.inner)
