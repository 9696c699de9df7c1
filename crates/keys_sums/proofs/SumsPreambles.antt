-- Bytes that are read as a sketch of sums begin with the image that its preamble tells of, and have no flaw that says otherwise.
use Rattle.std.proofs.Common.{◌≡◌, ◌≤◌, ℕ, ◌+◌, List, length, arith}
use Rattle.core_compact.specs.CompactState.{Compact}
use Rattle.core_images.specs.Head.{tuple_head, tuple_layout, is_big_endian, is_followed}
use Rattle.core_images.specs.Summary.{SpellsNumber, SpellsTuple}
use Rattle.core_images.specs.declared.head.Head.{Head}
use Rattle.core_slots.specs.Entry.{tuple_key}
use Rattle.core_slots.specs.declared.entry.TupleEntry.{TupleEntry}
use Rattle.tuple_sketches.proofs.ImageLayouts.{IsTold, told, sized_entry, layout_from}
use Rattle.keys_sketches.specs.Header.{MayBeRead, sums_flaw_of}
use Rattle.keys_sketches.proofs.Preambles.{in_file, open_flaw}
use Rattle.keys_sums.specs.Images.{ReadsSums}

sum_long : (text : List ℕ) (e : TupleEntry ℕ) → SpellsTuple (SpellsNumber 8) text e → length text ≡ 16
sum_long text e s = sized_entry (SpellsNumber 8) 8 (λ t x spelled. spelled.0) text e s

pub sums_told : (bytes : List ℕ) (h : ℕ) (s : Compact (TupleEntry ℕ)) → ReadsSums bytes h s → IsTold (SpellsNumber 8) 16 bytes h s
sums_told bytes h s reads = told (SpellsNumber 8) 16 sum_long bytes h s reads

pub sums_flaw_read : (bytes : List ℕ) (h : ℕ) (s : Compact (TupleEntry ℕ)) → ReadsSums bytes h s → MayBeRead (sums_flaw_of h bytes)
sums_flaw_read bytes h s reads =
    let long : (text : List ℕ) (e : TupleEntry ℕ) → SpellsTuple (SpellsNumber 8) text e → 16 ≤ length text = λ text e s. let is = sum_long text e s in omega (arith, is) in
    in_file bytes _ _ _ _ reads.spelled.begins (open_flaw tuple_key (SpellsTuple (SpellsNumber 8)) bytes h s (tuple_layout 16 h bytes) (layout_from (SpellsNumber 8) bytes h 16 long s reads) (is_big_endian bytes) (is_followed bytes (tuple_head 16 bytes)))
