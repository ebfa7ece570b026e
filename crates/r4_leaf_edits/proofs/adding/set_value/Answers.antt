use Rattle.std.proofs.Common.{sym, refl}
use Rattle.r4_base.specs.Key.{rank}
use Rattle.r4_base.specs.Value.{value_of}
use Rattle.r4_leaf_edits.specs.Made.{made_item}
use Rattle.r4_leaf_edits.proofs.Few.{grows_item, grows_none}
use Rattle.r4_leaf_edits.proofs.Added.{both_ok, value_added, value_nothing}
use Rattle.r4_leaf_edits.proofs.adding.set_value.Goals as goal

pub returns-clause-gains : goal.returns-clause-gains
returns-clause-gains c =
    both_ok c.replace.result
    (λ cuts items. value_added (rank c.args.range.now.from) (rank c.args.range.now.to) c.args.key (value_of c.args.value.now) c.args.edits.now c.replace.new.self
    (record { from = c.args.key; to = c.next_key-to.result }) (made_item c.in_ok-item.item) (sym c.if-not-has.ensures) refl c.next_key-to.ensures c.in_ok-item.ensures cuts items)
    c.replace.ensures.cuts c.replace.ensures.items

pub returns-then-not-has-clause-gains : goal.returns-then-not-has-clause-gains
returns-then-not-has-clause-gains c = value_nothing (rank c.args.range.now.from) (rank c.args.range.now.to) c.args.key (value_of c.args.value.now) c.args.edits.now (sym c.if-not-has.ensures)

pub returns-clause-few : goal.returns-clause-few
returns-clause-few c = both_ok c.replace.result (λ cut items. grows_item c.args.edits.now c.replace.new.self _ _ cut items) c.replace.ensures.cuts c.replace.ensures.items

pub returns-then-not-has-clause-few : goal.returns-then-not-has-clause-few
returns-then-not-has-clause-few c = grows_none 1 c.args.edits.now
