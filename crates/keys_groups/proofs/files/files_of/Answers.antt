use Rattle.std.proofs.Common.{◌≡◌, ◌∷◌, ◌++◌, sym, ap, subst, ◌∙◌}
use Rattle.keys_groups.specs.Groups.{group_sketch, IsNext}
use Rattle.keys_groups.specs.Files.{file_name, file_bytes, contents_of, files_of}
use Rattle.keys_groups.proofs.GroupFiles.{file_added}
use Rattle.keys_groups.proofs.files.files_of.Goals as goal

pub loop-preserved : goal.loop-preserved
loop-preserved c = λ grouping lines names all_left.
    let hex = c.args.hex in
    let so_far = c.loop.invariant grouping lines names all_left in
    let next = subst (IsNext grouping lines so_far.0 c.next_group.new.self) c.in-Some.is (c.in_ok-group.ensures.next grouping lines so_far.0 so_far.1) in
    let name = c.in-Some.group.name.items in
    let file = c.in_ok-file.file in
    let named : file.name.items ≡ file_name name = c.in_ok-file.ensures.name in
    let has : file.bytes.items ≡ file_bytes hex (group_sketch grouping lines name) = c.in_ok-file.ensures.bytes ∙ ap (file_bytes hex) next.2 in
    let others = files_of hex grouping lines next.0 in (
      next.0,
      next.3,
      file_added (files_of hex grouping lines names) others c.loop.files.items file
          (so_far.2 ∙ ap (λ ns. contents_of c.loop.files.items ++ files_of hex grouping lines ns) next.1 ∙ (λ i. contents_of c.loop.files.items ++ ((sym named i, sym has i) ∷ others)))
          ∙ ap (λ fs. contents_of fs ++ others) (sym c.in_ok-push.ensures.items),
    )
