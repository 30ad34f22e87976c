-- `element`: of the first list, or of the second by what is added.
use Rattle.std.proofs.Common.{◌∙◌, arith}
use Rattle.centralized_telescope.specs.inner.SourceHeld.{source_held}
use Rattle.centralized_telescope.specs.laws.SourceLaws.{readable, first_there, which_added, added_within, second_there}
use Rattle.centralized_telescope.proofs.source.Source.element.Goals as goal

pub returns-then-place-first : goal.returns-then-place-first
returns-then-place-first c =
    let s = c.args.self.now in
    c.element.ensures ∙ first_there (source_held s) (readable s) c.args.place (omega arith)

pub offset_bounds-self-place : goal.offset_bounds-self-place
offset_bounds-self-place c =
    let s = c.args.self.now in
    omega (arith, which_added (source_held s) (readable s) c.args.place c.requires (omega arith))

pub bounds-self-place : goal.bounds-self-place
bounds-self-place c =
    let s = c.args.self.now in
    omega (arith, which_added (source_held s) (readable s) c.args.place c.requires (omega arith))

pub element-requires-2 : goal.element-requires-2
element-requires-2 c =
    let s = c.args.self.now in
    rw (c.from.ensures, c.len-first.ensures) (added_within (source_held s) (readable s) c.args.place c.requires (omega arith))

pub returns : goal.returns
returns c =
    let s = c.args.self.now in
    c.element-2.ensures
    ∙ rw (c.from.ensures, c.len-first.ensures) (second_there (source_held s) (readable s) c.args.place c.requires (omega arith))
