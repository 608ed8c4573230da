use Rattle.std.proofs.Common.{sym, ◌∙◌}
use Rattle.succession.proofs.Walking.{walk_over, walk_stop, walk_more}
use Rattle.succession.proofs.tree.waiting_heir.Goals as goal

pub loop-index-preserved : goal.loop-index-preserved
loop-index-preserved c =
    let found = c.in-Some.ensures in
    sym (walk_more c.args.row.now c.args.place c.args.nodes.now c.loop-index.number c.loop-index.took c.in-Some.index _ found.within.1 found.value c.in-Some-taken_by.taken c.in-Some-taken_by.ensures)
    ∙ c.loop-index.invariant

pub returns-in_default-taken_by : goal.returns-in_default-taken_by
returns-in_default-taken_by c =
    let found = c.in-Some.ensures in
    sym (walk_stop c.args.row.now c.args.place c.args.nodes.now c.loop-index.number c.loop-index.took c.in-Some.index _ found.within.1 found.value c.in_default-taken_by.ensures)
    ∙ c.loop-index.invariant

pub returns : goal.returns
returns c = sym (walk_over c.args.row.now c.args.place c.args.nodes.now c.loop-index.number c.loop-index.took c.in_default.ensures.value) ∙ c.loop-index.invariant
