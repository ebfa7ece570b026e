use Rattle.std.proofs.Common.{◌<◌, not, ◌&&◌, [], ◌∷◌, sym, subst, ◌∙◌}
use Rattle.std.specs.Prelude.{map}
use Rattle.std.proofs.lemmas.Result.{on_ok_weaker}
use Rattle.r4_base.specs.Key.{offset_of, rank}
use Rattle.r4_base.specs.Value.{value_of}
use Rattle.r4_base.specs.declared.key.Key.{Key}
use Rattle.r4_content.specs.Edited.{is_in, put_keys}
use Rattle.r4_content.specs.Held.{pair_of}
use Rattle.r4_leaf_edits.specs.Making.{is_kept}
use Rattle.r4_leaf_edits.proofs.Few.{grows_none}
use Rattle.r4_leaf_edits.proofs.KeyRanks.{key_again}
use Rattle.r4_leaf_edits.proofs.OneByOne.{near_byte, sets_none, sets_one}
use Rattle.r4_leaf_edits.proofs.making.set_last.Goals as goal

pub set_value-requires-clause-short : goal.set_value-requires-clause-short
set_value-requires-clause-short c = λ byte.
    subst (λ (k : Key). offset_of k < 16384) (key_again c.args.key c.is_set.ensures.fits)
    (near_byte c.args.bytes (rank c.args.key) (value_of c.args.value.now) (not (is_in (put_keys (map pair_of c.args.rest.now)) (rank c.args.key))) (sym c.is_set.ensures.test ∙ c.if-is_set.true) c.requires.before byte)

pub returns-then-is_set-clause-gains : goal.returns-then-is_set-clause-gains
returns-then-is_set-clause-gains c =
    on_ok_weaker c.set_value.result
    (sets_one (rank c.args.range.now.from) (rank c.args.range.now.to) (is_kept c.args.bytes (rank c.args.key, value_of c.args.value.now) && not (is_in (put_keys (map pair_of c.args.rest.now)) (rank c.args.key)))
    ((rank c.args.key, value_of c.args.value.now) ∷ []) c.args.made.now c.set_value.new.edits (sym c.is_set.ensures.test ∙ c.if-is_set.true)) c.set_value.ensures.gains

pub returns-else-is_set-clause-gains : goal.returns-else-is_set-clause-gains
returns-else-is_set-clause-gains c =
    sets_none (rank c.args.range.now.from) (rank c.args.range.now.to) (is_kept c.args.bytes (rank c.args.key, value_of c.args.value.now) && not (is_in (put_keys (map pair_of c.args.rest.now)) (rank c.args.key)))
    ((rank c.args.key, value_of c.args.value.now) ∷ []) c.args.made.now (sym c.is_set.ensures.test ∙ c.if-is_set.false)

pub returns-then-is_set-clause-few : goal.returns-then-is_set-clause-few
returns-then-is_set-clause-few c = c.set_value.ensures.few

pub returns-else-is_set-clause-few : goal.returns-else-is_set-clause-few
returns-else-is_set-clause-few c = grows_none 1 c.args.made.now
