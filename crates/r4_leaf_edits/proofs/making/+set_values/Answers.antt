use Rattle.std.proofs.Common.{length, arith, List, map, ap, rules, ◌∙◌, ◌∷◌, []}
use Rattle.std.specs.Prelude.{if◌then◌else◌, not, ◌&&◌, ◌^◌}
use Rattle.std.specs.List.{filter}
use Rattle.std.proofs.lemmas.List.Elements.{filter-append}
use Rattle.std.proofs.lemmas.Result.{on_ok_weaker}
use Rattle.r4_base.specs.Key.{rank}
use Rattle.r4_base.specs.declared.key.Key.{Key}
use Rattle.r4_base.specs.declared.values.Value.{Value as HeldValue}
use Rattle.r4_content.specs.Edited.{Pairs, is_in, put_keys}
use Rattle.r4_content.specs.Held.{pair_of}
use Rattle.r4_leaf_edits.specs.Making.{is_kept, values_set}
use Rattle.r4_leaf_edits.specs.Suiting.{IsBefore, IsLawfulPut, is_byte}
use Rattle.r4_leaf_edits.proofs.Few.{grows_both, grows_none}
use Rattle.r4_leaf_edits.proofs.OneByOne.{first_of, rest_of, sets_all, values_of}
use Rattle.r4_leaf_edits.proofs.making.+set_values.Goals as goal

abbrev pairs : List (Key × HeldValue) → Pairs
pairs vs = map pair_of vs

abbrev bytes_in : List (Key × HeldValue) → Pairs
bytes_in vs = filter (λ p. is_byte p.1) (map pair_of vs)

pub set_last-requires-clause-lawful : goal.set_last-requires-clause-lawful
set_last-requires-clause-lawful t c = first_of IsLawfulPut (pair_of c.in-Some.first.now ∷ []) (pairs c.in-Some.rest.now) (pairs c.args.values.now) (ap pairs c.in-Some.ensures.cases.0) c.requires.lawful 0 (pair_of c.in-Some.first.now) (search rules)

pub set_last-requires-clause-before : goal.set_last-requires-clause-before
set_last-requires-clause-before t c =
    first_of (IsBefore (if c.args.bytes then 16384 else 2 ^ 64)) (filter (λ p. is_byte p.1) (pair_of c.in-Some.first.now ∷ [])) (bytes_in c.in-Some.rest.now) (bytes_in c.args.values.now)
    (ap bytes_in c.in-Some.ensures.cases.0 ∙ filter-append (λ p. is_byte p.1) (pair_of c.in-Some.first.now ∷ []) (pairs c.in-Some.rest.now)) c.requires.before

pub set_values-requires : goal.set_values-requires
set_values-requires t c = (
  search rules,
  (
    rest_of IsLawfulPut (pair_of c.in-Some.first.now ∷ []) (pairs c.in-Some.rest.now) (pairs c.args.values.now) (ap pairs c.in-Some.ensures.cases.0) c.requires.lawful,
    rest_of (IsBefore (if c.args.bytes then 16384 else 2 ^ 64)) (filter (λ p. is_byte p.1) (pair_of c.in-Some.first.now ∷ [])) (bytes_in c.in-Some.rest.now) (bytes_in c.args.values.now)
        (ap bytes_in c.in-Some.ensures.cases.0 ∙ filter-append (λ p. is_byte p.1) (pair_of c.in-Some.first.now ∷ []) (pairs c.in-Some.rest.now)) c.requires.before,
  ),
)

pub returns-in_ok-set_last-in-Some-clause-gains : goal.returns-in_ok-set_last-in-Some-clause-gains
returns-in_ok-set_last-in-Some-clause-gains t c =
    let p = pair_of c.in-Some.first.now in
    on_ok_weaker c.set_values.result
    (sets_all (rank c.args.range.now.from) (rank c.args.range.now.to) (if is_kept c.args.bytes p && not (is_in (put_keys (pairs c.in-Some.rest.now)) p.0) then p ∷ [] else []) (values_set c.args.bytes (pairs c.in-Some.rest.now))
    (values_set c.args.bytes (pairs c.args.values.now)) c.args.made.now c.set_last.new.made c.set_values.new.made
    (ap (λ (vs : List (Key × HeldValue)). values_set c.args.bytes (pairs vs)) c.in-Some.ensures.cases.0 ∙ values_of c.args.bytes p (pairs c.in-Some.rest.now)) c.in_ok-set_last-in-Some.ensures.gains) c.set_values.ensures.gains

pub returns-in_ok-set_last-in-Some-clause-few : goal.returns-in_ok-set_last-in-Some-clause-few
returns-in_ok-set_last-in-Some-clause-few t c =
    let n = c.in-Some.ensures.cases.1 in
    on_ok_weaker c.set_values.result
    (grows_both 1 (length c.in-Some.rest.now) (length c.args.values.now) c.args.made.now c.set_last.new.made c.set_values.new.made (omega (arith, n)) c.in_ok-set_last-in-Some.ensures.few) c.set_values.ensures.few

pub returns-in-None-clause-few : goal.returns-in-None-clause-few
returns-in-None-clause-few t c = grows_none (length c.args.values.now) c.args.made.now
