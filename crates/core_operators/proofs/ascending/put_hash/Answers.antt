use Rattle.std.proofs.Common.{Bool, ◌<◌, ◌≤◌, ◌≡◌, ◌+◌, ◌∙◌, ◌++◌, ◌∷◌, [], List, ℕ, cond, length, set, take, sym, ap, arith}
use Rattle.std.proofs.lemmas.List.{append-nil, append_assoc, take_all, length-set}
use Rattle.core_operators.proofs.Admitted.{put_one}
use Rattle.core_operators.proofs.ascending.put_hash.Goals as goal

-- the hashes are full with one hash more
full : (found : List ℕ) (count more hash : ℕ) (passes : Bool) → length found ≡ 64 → count < 64 → 64 ≤ count + more → more ≡ cond passes 1 0 → more ≤ 1 → set found count hash ≡ take count found ++ cond passes (hash ∷ []) []
full found count more hash passes whole room past more_is small =
    let filled : 64 ≡ count + more = omega (arith, past, small, room) in
    sym (take_all 64 (set found count hash) (omega (arith, whole, length-set found count hash)))
    ∙ ap (λ n. take n (set found count hash)) filled
    ∙ put_one found count more hash passes (omega (arith, whole, room)) more_is

appended : (keys found : List ℕ) (count more hash put : ℕ) (passes : Bool) (all : List ℕ) → length found ≡ 64 → count < 64 → 64 ≤ count + more → more ≡ cond passes 1 0 → more ≤ 1 → put ≡ hash → all ≡ keys ++ set found count put
    → all ++ [] ≡ (keys ++ take count found) ++ cond passes (hash ∷ []) []
appended keys found count more hash put passes all whole room past more_is small put_is is =
    append-nil all ∙ is ∙ ap (λ h. keys ++ set found count h) put_is
    ∙ ap (λ ys. keys ++ ys) (full found count more hash passes whole room past more_is small)
    ∙ sym (append_assoc keys (take count found) (cond passes (hash ∷ []) []))

pub returns-clause-put : goal.returns-clause-put
returns-clause-put g c =
    appended c.args.keys.now.items c.args.found.now c.args.count c.number_if.result c.args.hash c.of_hash.result c.args.is_admitted c.push_hashes.new.keys.items c.told-found c.requires.room (omega (arith, c.if-next-lt-BLOCK.false)) c.number_if.ensures.value c.number_if.ensures.small c.of_hash.ensures c.in_ok-push_hashes.ensures
