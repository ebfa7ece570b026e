use Rattle.std.proofs.Common.{◌≡◌, ◌-◌, ◌++◌, ◌∷◌, [], List, ap, sym, ◌∙◌}
use Rattle.r4_allowed.specs.Making.{cell_entry, needed_by}
use Rattle.r4_allowed.specs.Table.{budget_of}
use Rattle.r4_allowed.specs.declared.table.Allowance.{Allowance}
use Rattle.r4_allowed.proofs.Raised.{entry_here}
use Rattle.r4_allowed.proofs.making.add.Goals as goal

pub returns : goal.returns
returns c =
    let cell = c.args.cell.now in
    let level : cell.level ≡ c.args.level = sym c.level.ensures ∙ c.if-level.false in
    let u = budget_of c.args.table.now (c.args.level - 1) in
    let most : c.in_ok-most.most ≡ needed_by u cell =
    c.in_ok-most.ensures ∙ ap (λ l. needed_by (budget_of c.args.table.now (l - 1)) cell) level in
    let made : Allowance = record { level = c.args.level; id = c.id.result; most = c.in_ok-most.most } in
    let same : made ≡ cell_entry u c.args.level cell = λ i. record { level = c.args.level; id = record { 0 = c.id.ensures i }; most = most i } in
    c.in_ok-push.ensures.items ∙ ap (λ (xs : List Allowance). c.args.more.now.items ++ xs)
    (ap (λ (a : Allowance). a ∷ []) same ∙ sym (entry_here u c.args.level cell level))
