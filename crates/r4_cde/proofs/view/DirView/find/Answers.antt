use Rattle.std.proofs.Common.{◌≡◌, ◌+◌, ◌-◌, ◌/◌, ◌<◌, ◌≤◌, Bool, true, false, ℕ, IfSome, IfNone, refl, arith}
use Rattle.std.specs.Bool.{then_some}
use Rattle.r4_base.specs.Dir.{entry_count}
use Rattle.r4_cde.proofs.Finds.{narrowed_up, narrowed_down, found, absent, other_rank}
use Rattle.r4_cde.proofs.Shows.{good, has_room}
use Rattle.r4_cde.proofs.view.DirView.find.Goals as goal

pub key_in-requires : goal.key_in-requires
key_in-requires c =
    let v = c.args.self.now in
    let within = c.loop-low.invariant.within in
    (has_room v.item v.body.now (c.loop-low.low + (c.loop-low.high - c.loop-low.low) / 2) (good v.item v.body.now v.good) (omega arith)).header

pub loop-low-preserved-then-is_below : goal.loop-low-preserved-then-is_below
loop-low-preserved-then-is_below c =
    let v = c.args.self.now in
    narrowed_up v.item v.body.now c.args.key.now c.key_in.result c.loop-low.low c.loop-low.high (c.loop-low.low + (c.loop-low.high - c.loop-low.low) / 2) c.is_below.result (good v.item v.body.now v.good) c.key_in.ensures c.is_below.ensures c.if-is_below.true (omega arith) (omega arith) c.loop-low.invariant

pub loop-low-preserved : goal.loop-low-preserved
loop-low-preserved c =
    let v = c.args.self.now in
    narrowed_down v.item v.body.now c.args.key.now c.key_in.result c.loop-low.low c.loop-low.high (c.loop-low.low + (c.loop-low.high - c.loop-low.low) / 2) c.is_below.result (good v.item v.body.now v.good) c.key_in.ensures c.is_below.ensures c.if-is_below.false (omega arith) (omega arith) c.loop-low.invariant

pub returns-then-low-self-clause-none : goal.returns-then-low-self-clause-none
returns-then-low-self-clause-none c =
    let v = c.args.self.now in
    absent v.item v.body.now c.args.key.now c.loop-low.low c.loop-low.high (good v.item v.body.now v.good) c.loop-low.invariant (omega arith) (λ lt. absurd (omega (arith, v.counted)))

left : (low high count n : ℕ) → (low ≡ count → ⊥) → count ≡ n → high ≤ low → low ≤ high → high ≤ n → low < n
left low high count n other is a b c = omega arith

pub key_in-requires-2 : goal.key_in-requires-2
key_in-requires-2 c =
    let v = c.args.self.now in
    let s = c.loop-low.invariant in
    (has_room v.item v.body.now c.loop-low.low (good v.item v.body.now v.good) (left c.loop-low.low c.loop-low.high v.count (entry_count v.body.now) c.if-low-self.false v.counted c.loop-low-test.false s.order s.within)).header

if_some : (t : Bool) (x : ℕ) (P : ℕ → Type 0) → (t ≡ true → P x) → IfSome (then_some t x) P
if_some true x P h = h refl
if_some false x P h = tt

if_none : (t : Bool) (x : ℕ) (P : Type 0) → (t ≡ false → P) → IfNone (then_some t x) P
if_none true x P h = tt
if_none false x P h = h refl

pub returns-clause-some : goal.returns-clause-some
returns-clause-some c =
    let v = c.args.self.now in
    let s = c.loop-low.invariant in
    let lt = left c.loop-low.low c.loop-low.high v.count (entry_count v.body.now) c.if-low-self.false v.counted c.loop-low-test.false s.order s.within in
    rw c.then_some.ensures (if_some c.is_same.result c.loop-low.low _ (λ is. found v.item v.body.now c.args.key.now c.key_in-2.result c.loop-low.low lt c.key_in-2.ensures (c.is_same.ensures.keys is)))

pub returns-clause-none : goal.returns-clause-none
returns-clause-none c =
    let v = c.args.self.now in
    rw c.then_some.ensures (if_none c.is_same.result c.loop-low.low _ (λ is. absent v.item v.body.now c.args.key.now c.loop-low.low c.loop-low.high (good v.item v.body.now v.good) c.loop-low.invariant (omega arith) (λ lt.
    other_rank v.item v.body.now c.args.key.now c.key_in-2.result c.loop-low.low c.is_same.result c.key_in-2.ensures c.is_same.ensures.ranks is)))
