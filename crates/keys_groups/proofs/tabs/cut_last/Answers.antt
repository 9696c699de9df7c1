use Rattle.std.proofs.Common.{ap, sym, ◌∙◌, drop, length}
use Rattle.std.proofs.Math.Seq.{drop-append_seam}
use Rattle.keys_groups.specs.Tabs.{has_tab, before_tab, behind_tab}
use Rattle.keys_groups.proofs.LastTabs.{tab_there, before_last, behind_last, parted_at}
use Rattle.keys_groups.proofs.tabs.cut_last.Goals as goal

pub returns-then-last-eq9-clause-some : goal.returns-then-last-eq9-clause-some
returns-then-last-eq9-clause-some c =
    let at = c.loop-last.invariant in
    let front = c.in-Some.front.now in
    ap has_tab (parted_at c.args.line.now c.loop-last.left.now front at.0 c.in-Some.last.now at.1 c.in-Some.ensures.cases.0 c.if-last-eq9.true) ∙ tab_there front at.0

pub returns-then-last-eq9-clause-name : goal.returns-then-last-eq9-clause-name
returns-then-last-eq9-clause-name c =
    let at = c.loop-last.invariant in
    let front = c.in-Some.front.now in
    sym (ap before_tab (parted_at c.args.line.now c.loop-last.left.now front at.0 c.in-Some.last.now at.1 c.in-Some.ensures.cases.0 c.if-last-eq9.true) ∙ before_last front at.0 at.2)

pub returns-then-last-eq9-clause-digits : goal.returns-then-last-eq9-clause-digits
returns-then-last-eq9-clause-digits c =
    let at = c.loop-last.invariant in
    let front = c.in-Some.front.now in
    let left = c.loop-last.left.now in
    c.split_at.ensures.back ∙ ap (drop (length left)) at.1 ∙ drop-append_seam left at.0
    ∙ sym (ap behind_tab (parted_at c.args.line.now left front at.0 c.in-Some.last.now at.1 c.in-Some.ensures.cases.0 c.if-last-eq9.true) ∙ behind_last front at.0 at.2)
