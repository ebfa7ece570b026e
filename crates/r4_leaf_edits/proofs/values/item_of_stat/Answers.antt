use Rattle.std.proofs.Common.{◌≡◌, ℕ, List, length, sym, subst, ◌∙◌, rules}
use Rattle.std.proofs.lemmas.List.{with_items_is}
use Rattle.r4_base.specs.Value.{Stat}
use Rattle.r4_base.proofs.Keys.{is_key}
use Rattle.r4_leaf_edits.specs.Making.{IsUnit}
use Rattle.r4_leaf_edits.proofs.Spelled.{stat_unit}
use Rattle.r4_leaf_edits.proofs.values.item_of_stat.Goals as goal

pub returns : goal.returns
returns c =
    let key_is = is_key c.args.key (search rules) (search rules) (search rules) (search rules) (search rules) in
    let n : length c.write_stat.new.body ≡ c.in_ok-body.body.len = c.write_stat.auto.body ∙ c.deref_mut.ensures.len in
    let is = with_items_is c.in_ok-body.body c.write_stat.new.body n in
    subst (λ (b : List ℕ). IsUnit c.args.key (Stat c.args.attr.now) (record { key = c.args.key; plugin = 0; body = b })) (sym is)
    (stat_unit c.args.key c.write_stat.new.body c.args.attr.now key_is (c.write_stat.ensures.again c.requires) c.write_stat.ensures.fields)
