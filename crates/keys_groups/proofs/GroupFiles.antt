-- Files of groups, one after another.
use Rattle.std.proofs.Common.{ℕ, ◌≡◌, List, [], ◌∷◌, ◌++◌, sym, ap, ◌∙◌, append_assoc}
use Rattle.std.proofs.lemmas.List.{map-append}
use Rattle.keys_groups.specs.Files.{contents_of}
use Rattle.keys_groups.specs.declared.files.GroupFile.{GroupFile}

-- one file more
pub file_added : (all more : List (List ℕ × List ℕ)) (files : List GroupFile) (file : GroupFile) → all ≡ contents_of files ++ ((file.name.items, file.bytes.items) ∷ more) → all ≡ contents_of (files ++ file ∷ []) ++ more
file_added all more files file so_far =
    let one : List (List ℕ × List ℕ) = (file.name.items, file.bytes.items) ∷ [] in
    so_far ∙ sym (append_assoc (contents_of files) one more) ∙ ap (λ fs. fs ++ more) (sym (map-append (λ (f : GroupFile). (f.name.items, f.bytes.items)) files (file ∷ [])))
