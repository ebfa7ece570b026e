use Rattle.std.proofs.Common.{◌≡◌, ◌≢◌, ℕ, ◌+◌, ◌<◌, ◌≤◌, List, Option, None, get_or, length, ap, sym, ◌∙◌, subst, arith}
use Rattle.std.specs.Prelude.{IsSome}
use Rattle.std.proofs.lemmas.List.{get_or-set_other, get_or_default, length-set}
use Rattle.r4_base.specs.declared.things.NodeId.{NodeId}
use Rattle.r4_turns.specs.Turns.{HasNext, IsScript, TurnsSeen, turn_at, with_turn}
use Rattle.r4_renaming.specs.Steps.{turn_keeping}
use Rattle.r4_renaming.proofs.Tasks.{halfway, has_next, out_next, put_next, script_next}
use Rattle.r4_renaming.proofs.pins.put_pins.Goals as goal

-- what is taken is the list of this script
taken : (all now : List (Option (List NodeId))) (k : ℕ) (x y : Option (List NodeId)) → k < length now → x ≡ y
    → y ≡ get_or now k y → ((j : ℕ) → k ≤ j → get_or now j None ≡ get_or all j None) → x ≡ get_or all k None
taken all now k x y lt same at left =
    let stays : k ≤ k = omega arith in same ∙ at ∙ get_or_default now k y None lt ∙ left k stays

pub put_one-requires-clause-is_out : goal.put_one-requires-clause-is_out
put_one-requires-clause-is_out c =
    let t = c.args.turns.now in
    let k = c.loop-place.place in
    let d = c.loop-place.invariant in
    let test = c.loop-place-test.true in
    let scripts = c.count-place-end.ensures.turns in
    let count = d.count in
    let each = c.requires.each in
    let lt : k < length t.turns = omega (arith, test, scripts) in
    let within : k < length c.loop-place.pins.items = omega (arith, count, each, lt) in
    let is = taken c.args.pins.items c.loop-place.pins.items k c.take.result c.index_mut.result.now within
    c.take.ensures.value c.index_mut.ensures.value d.left in
    λ some. subst (λ (x : TurnsSeen). IsSome (turn_at x (k + 1)).out) (sym d.done)
    (out_next t c.args.pins.items c.requires k lt (subst IsSome is some))

pub put_one-requires-clause-next : goal.put_one-requires-clause-next
put_one-requires-clause-next c =
    let t = c.args.turns.now in
    let k = c.loop-place.place in
    let d = c.loop-place.invariant in
    let test = c.loop-place-test.true in
    let scripts = c.count-place-end.ensures.turns in
    let count = d.count in
    let each = c.requires.each in
    let lt : k < length t.turns = omega (arith, test, scripts) in
    let within : k < length c.loop-place.pins.items = omega (arith, count, each, lt) in
    let is = taken c.args.pins.items c.loop-place.pins.items k c.take.result c.index_mut.result.now within
    c.take.ensures.value c.index_mut.ensures.value d.left in
    λ some. subst (λ (x : TurnsSeen). HasNext x (k + 1)) (sym d.done)
    (has_next t c.args.pins.items c.requires k lt (subst IsSome is some))

pub loop-place-preserved : goal.loop-place-preserved
loop-place-preserved c =
    let t = c.args.turns.now in
    let k = c.loop-place.place in
    let d = c.loop-place.invariant in
    let test = c.loop-place-test.true in
    let scripts = c.count-place-end.ensures.turns in
    let count = d.count in
    let each = c.requires.each in
    let lt : k < length t.turns = omega (arith, test, scripts) in
    let within : k < length c.loop-place.pins.items = omega (arith, count, each, lt) in
    let is = taken c.args.pins.items c.loop-place.pins.items k c.take.result c.index_mut.result.now within
    c.take.ensures.value c.index_mut.ensures.value d.left in
    let h = halfway t c.args.pins.items c.requires k lt in
    record {
      done = c.put_one.ensures
          ∙ ap (λ (x : TurnsSeen). with_turn x (k + 1) (turn_keeping c.take.result (turn_at x (k + 1)))) d.done
          ∙ ap (λ (o : Option (List NodeId)). with_turn h (k + 1) (turn_keeping o (turn_at h (k + 1)))) is
          ∙ put_next t c.args.pins.items c.requires k lt;
      count = length-set c.loop-place.pins.items k c.take.new.self ∙ d.count;
      left = λ j le.
          let other : j ≢ k = omega (arith, le) in
          let at : k ≤ j = omega (arith, le) in
          get_or-set_other c.loop-place.pins.items k j c.take.new.self None other ∙ d.left j at;
    }

pub put_one-requires-clause-script : goal.put_one-requires-clause-script
put_one-requires-clause-script c =
    let t = c.args.turns.now in
    let k = c.loop-place.place in
    let test = c.loop-place-test.true in
    let scripts = c.count-place-end.ensures.turns in
    let lt : k < length t.turns = omega (arith, test, scripts) in
    subst (λ (x : TurnsSeen). IsScript x (k + 1)) (sym c.loop-place.invariant.done)
    (script_next t c.args.pins.items c.requires k lt)
