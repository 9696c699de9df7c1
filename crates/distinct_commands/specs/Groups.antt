-- What is printed or written of groups.
use Rattle.std.specs.Prelude.{ℕ, ◌≡◌, ◌++◌, Bool, true, false, List, [], ◌∷◌, Option, Some, None, unwrap_or, codes, flat_map}
use Rattle.std.specs.Str.Lossy.{utf8_lossy}
use Rattle.core_compact.specs.CompactState.{Compact}
use Rattle.theta_sketches.specs.Image.{written}
use Rattle.keys_reports.specs.declared.report.Report.{Report}
use Rattle.keys_reports.specs.Forms.{json_line, shown_line, tsv_row}
use Rattle.keys_lines.specs.Lines.{lines_of_all}
use Rattle.keys_lines.specs.declared.key.Key.{Key}
use Rattle.keys_groups.specs.Groups.{AreGroups, group_sketch}
use Rattle.keys_groups.specs.United.{image_line, AreNames, AreUnionSketches}
use Rattle.keys_groups.specs.declared.groups.Group.{Group}
use Rattle.keys_groups.specs.declared.groups.Grouping.{Grouping}
use Rattle.distinct_arguments.specs.Settings.{OptionValues}
use Rattle.distinct_arguments.specs.declared.options.Order.{Order}
use Rattle.distinct_arguments.specs.declared.options.Order.TheVariants.{Name, Greatest}
use Rattle.distinct_arguments.specs.declared.options.Form.{Form}
use Rattle.distinct_arguments.specs.declared.options.Form.TheVariants.{Plain, Tsv, Json}
use Rattle.distinct_inputs.specs.Failures.{chosen_hashing}
use Rattle.distinct_commands.specs.declared.groups.Listing.{Listing}
use Rattle.distinct_commands.specs.declared.groups.Listing.TheVariants.{Counts, Images, Shown}
use Rattle.distinct_commands.specs.Ranked.{AreRanked, reaching, first_items}
use Rattle.distinct_commands.specs.Texts.{counted_line, report_by, head_of}

-- how options group lines by a key
abbrev pub grouping_of : OptionValues → (seed : ℕ) → (by : Key) → Grouping
grouping_of options seed by = record { by = by; hashing = chosen_hashing options seed; lg_k = options.lg_k }

-- what is printed of a group: its name as it is, a tab and the line of its count; in JSON its name in UTF-8, with U+FFFD
-- for what is not
abbrev pub grouped_in : Form → (line : List ℕ) → (name : List ℕ) → Report → List ℕ
grouped_in Plain line name report = name ++ codes "\t" ++ line
grouped_in Tsv line name report = tsv_row (Some name) report
grouped_in Json line name report = json_line (Some (utf8_lossy name)) report

-- what is printed of the group of a name, which has this sketch
abbrev pub group_text : OptionValues → (name : List ℕ) → Compact ℕ → List ℕ
group_text options name s = grouped_in options.form (counted_line options (report_by options s)) name (report_by options s)

-- what `show` prints of a group under its name: as plain text in UTF-8, with U+FFFD for what is not
abbrev pub shown_group : Form → OptionValues → (name : List ℕ) → Compact ℕ → List ℕ
shown_group Plain options name s = shown_line (utf8_lossy name) (report_by options s)
shown_group Tsv options name s = group_text options name s
shown_group Json options name s = group_text options name s

-- how groups are listed: by their images, or by their counts
abbrev pub listing_of : (images : Bool) → Listing
listing_of false = Counts
listing_of true = Images

-- the line of a group: its count, or its image as a line has it, after its name as it is and a tab, or what `show` prints of it
abbrev pub group_line : Listing → OptionValues → (name : List ℕ) → Compact ℕ → List ℕ
group_line Counts options name s = group_text options name s
group_line Images options name s = image_line name (written s)
group_line Shown options name s = shown_group options.form options name s

-- the lines of the groups of these names, each with its sketch
abbrev pub groups_text : Listing → OptionValues → (sketch : List ℕ → Compact ℕ) → (names : List (List ℕ)) → List ℕ
groups_text listing options sketch names = flat_map (λ name. group_line listing options name (sketch name)) names

-- the head of the table of groups, if there is to be one
abbrev pub groups_head : Listing → OptionValues → List ℕ
groups_head Counts options = head_of options.form
groups_head Images options = []
groups_head Shown options = head_of options.form

-- the estimate that is printed of the group of a name
abbrev pub group_estimate : OptionValues → (sketch : List ℕ → Compact ℕ) → (name : List ℕ) → ℕ
group_estimate options sketch name = (report_by options (sketch name)).estimate

-- the names of the groups that are counted: those whose estimate is at least that of `--min`, if there is one
abbrev pub counted_names : OptionValues → (sketch : List ℕ → Compact ℕ) → (names : List (List ℕ)) → List (List ℕ)
counted_names options sketch names = reaching options.least (group_estimate options sketch) names

-- the first group of those that were left and are counted, and the others that are counted are left now; there is none
-- only if none was left
abbrev pub IsNextCounted : {G : Type 0} → (lists : (names : List (List ℕ)) → G → Type 0) → OptionValues → (sketch : List ℕ → Compact ℕ) →
    (names : List (List ℕ)) → (new : G) → Option Group → Type 0
IsNextCounted lists options sketch names new None = counted_names options sketch names ≡ []
IsNextCounted lists options sketch names new (Some group) =
    (others : List (List ℕ))
    × (counted_names options sketch names ≡ group.name.items ∷ counted_names options sketch others)
    × (group.sketch ≡ sketch group.name.items)
    × lists others new

-- the order of groups: by name, if none is chosen
abbrev pub chosen_order : OptionValues → Order
chosen_order options = unwrap_or options.sort Name

-- these names are in this order: by their numbers, or as they were, which is the order of their bytes
abbrev pub AreOrdered : Order → (number : List ℕ → ℕ) → (names ordered : List (List ℕ)) → Type 0
AreOrdered Greatest number names ordered = AreRanked number names ordered
AreOrdered Name number names ordered = ordered ≡ names

-- What is printed of the groups of these names and sketches, after the head: those that are counted are put into the order
-- that is chosen, and each of the first ones, as many as `--top` says, or of all has a line.
abbrev pub IsGroupsText : Listing → OptionValues → (sketch : List ℕ → Compact ℕ) → (names : List (List ℕ)) → List ℕ → Type 0
IsGroupsText listing options sketch names out =
    (ordered : List (List ℕ))
    × AreOrdered (chosen_order options) (group_estimate options sketch) (counted_names options sketch names) ordered
    × (out ≡ groups_head listing options ++ groups_text listing options sketch (first_items options.most ordered))

-- what is printed of the lines of texts by groups, each with the sketch of its own lines
abbrev pub IsGroupedText : Listing → OptionValues → (seed : ℕ) → (by : Key) → (texts : List (List ℕ)) → List ℕ → Type 0
IsGroupedText listing options seed by texts out =
    (names : List (List ℕ))
    × AreGroups by (lines_of_all texts) names
    × IsGroupsText listing options (group_sketch (grouping_of options seed by) (lines_of_all texts)) names out

-- what is printed of the groups of images in the lines of texts, each with the sketch of the union of its own images
abbrev pub IsUnitedListing : Listing → OptionValues → (seed : ℕ) → (texts : List (List ℕ)) → List ℕ → Type 0
IsUnitedListing listing options seed texts out =
    (names : List (List ℕ))
    × (sketch : List ℕ → Compact ℕ)
    × AreNames (lines_of_all texts) names
    × AreUnionSketches seed options.lg_k (lines_of_all texts) sketch
    × IsGroupsText listing options sketch names out
