-- Commands one by one: the retained hashes, and the replies, after one more.
use Rattle.std.proofs.Common.{◌≡◌, ℕ, ◌^◌, ◌<◌, ◌+◌, List, [], ◌∷◌, ◌++◌, length, get_or, take, refl, sym, ap, ◌∙◌}
use Rattle.std.proofs.lemmas.List.{take_more}
use Rattle.core_laws.specs.Cuts.{Retained}
use Rattle.core_table.specs.HashTable.{MapTable}
use Rattle.theta_tables.specs.declared.command.TableCommand.{TableCommand}
use Rattle.theta_tables.specs.declared.command.TableReply.{TableReply}
use Rattle.theta_tables.specs.Command.{after_command, after_commands, reply, replies}

module _ (k start : ℕ) where
  after_append : (cs : List TableCommand) (c : TableCommand) (v : Retained ℕ) → after_commands k start (cs ++ c ∷ []) v ≡ after_command k start c (after_commands k start cs v)
  after_append [] c v = refl
  after_append (first ∷ cs) c v = after_append cs c (after_command k start first v)

  replies_append : (cs : List TableCommand) (c : TableCommand) (v : Retained ℕ) → replies k start (cs ++ c ∷ []) v ≡ replies k start cs v ++ reply k start c (after_commands k start cs v) ∷ []
  replies_append [] c v = refl
  replies_append (first ∷ cs) c v = ap (λ rs. reply k start first v ∷ rs) (replies_append cs c (after_command k start first v))

-- the table after one more of the commands
pub table_after : (cs : List TableCommand) (i : ℕ) (d : TableCommand) (lt : i < length cs) (old was now : MapTable ℕ) →
    was ≡ record old { kept = after_commands (2 ^ old.lg_nom) old.start (take i cs) old.kept } →
    now ≡ record was { kept = after_command (2 ^ was.lg_nom) was.start (get_or cs i d) was.kept } →
    now ≡ record old { kept = after_commands (2 ^ old.lg_nom) old.start (take (i + 1) cs) old.kept }
table_after cs i d lt old was now before after =
    let stepped : MapTable ℕ → MapTable ℕ = λ t. record t { kept = after_command (2 ^ t.lg_nom) t.start (get_or cs i d) t.kept } in
    let with : Retained ℕ → MapTable ℕ = λ v. record old { kept = v } in
    after ∙ ap stepped before
    ∙ ap with (sym (after_append (2 ^ old.lg_nom) old.start (take i cs) (get_or cs i d) old.kept) ∙ ap (λ (limited : List TableCommand). after_commands (2 ^ old.lg_nom) old.start limited old.kept) (sym (take_more cs i d lt)))

-- the replies to one more of them
pub replied_more : (cs : List TableCommand) (i : ℕ) (d : TableCommand) (lt : i < length cs) (old was : MapTable ℕ) (reported : TableReply) (reported_so_far reported_now : List TableReply) →
    was ≡ record old { kept = after_commands (2 ^ old.lg_nom) old.start (take i cs) old.kept } →
    reported_so_far ≡ replies (2 ^ old.lg_nom) old.start (take i cs) old.kept →
    reported ≡ reply (2 ^ was.lg_nom) was.start (get_or cs i d) was.kept →
    reported_now ≡ reported_so_far ++ reported ∷ [] →
    reported_now ≡ replies (2 ^ old.lg_nom) old.start (take (i + 1) cs) old.kept
replied_more cs i d lt old was reported reported_so_far reported_now before so_far is now =
    now
    ∙ ap (λ (rs : List TableReply). rs ++ reported ∷ []) so_far
    ∙ ap (λ (r : TableReply). replies (2 ^ old.lg_nom) old.start (take i cs) old.kept ++ r ∷ []) (is ∙ ap (λ (t : MapTable ℕ). reply (2 ^ t.lg_nom) t.start (get_or cs i d) t.kept) before)
    ∙ sym (replies_append (2 ^ old.lg_nom) old.start (take i cs) (get_or cs i d) old.kept)
    ∙ ap (λ (limited : List TableCommand). replies (2 ^ old.lg_nom) old.start limited old.kept) (sym (take_more cs i d lt))
