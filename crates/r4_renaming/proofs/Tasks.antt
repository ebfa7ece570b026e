-- The nodes that are kept for tasks, one script more at a time.
use Rattle.std.proofs.Common.{◌≡◌, ℕ, zero, suc, ◌+◌, ◌-◌, ◌<◌, List, [], ◌∷◌, map, take, length, get_or, Option, Some}
use Rattle.std.proofs.Common.{None, refl, sym, ◌∙◌, ap, subst, arith, add-one}
use Rattle.std.specs.Prelude.{IsSome, slice_set}
use Rattle.std.specs.Option.{option_map}
use Rattle.std.proofs.lemmas.List.{get_or-map, get_or-set_same, length-map, set-set}
use Rattle.r4_base.specs.declared.things.NodeId.{NodeId}
use Rattle.r4_turns.specs.Turns.{HasNext, IsScript, TurnsSeen, commands_at, dropped, gone_out, start, turn_at}
use Rattle.r4_turns.specs.Turns.{with_turn}
use Rattle.r4_turns.specs.declared.out.Out.{Out}
use Rattle.r4_turns.specs.declared.turn.Turn.{Turn}
use Rattle.r4_renaming.specs.Renaming.{turn_with_pins, with_pins}
use Rattle.r4_renaming.specs.Steps.{CanKeep, pins_then, turn_keeping, turns_keeping}

abbrev Lists : Type 0
Lists = List (Option (List NodeId))

-- a task goes and comes back with other nodes kept for it
pub put_back : (t : TurnsSeen) (s : ℕ) (o : Out) (pins : List NodeId) → s - 1 < length t.turns
    → (turn_at t s).out ≡ Some o
    → gone_out (dropped t s) s (record o { pins = pins }) ≡ with_turn t s (turn_keeping (Some pins) (turn_at t s))
put_back t s o pins lt out =
    let turn = turn_at t s in
    let gone = get_or-set_same t.turns (s - 1) (record turn { out = None }) start lt in
    ap (λ (z : Turn). with_turn (dropped t s) s (record z { out = Some (record o { pins = pins }) })) gone
    ∙ ap (λ (l : List Turn). record t { turns = l })
    (set-set t.turns (s - 1) (record turn { out = None }) (record turn { out = Some (record o { pins = pins }) }))
    ∙ ap (λ (z : Option Out). with_turn t s (record turn { out = z }))
    (sym (ap (option_map (λ (q : Out). record q { pins = pins })) out))

-- ---- the first scripts

length_keeping : (ps : Lists) (ts : List Turn) → length (turns_keeping ps ts) ≡ length ts
length_keeping [] ts = refl
length_keeping (p ∷ ps) [] = refl
length_keeping (p ∷ ps) (t ∷ ts) = ap suc (length_keeping ps ts)

-- the next turn is as it was
at_next : (ps : Lists) (ts : List Turn) (k : ℕ) → get_or (turns_keeping (take k ps) ts) k start ≡ get_or ts k start
at_next ps ts zero = refl
at_next [] ts (suc k) = refl
at_next (p ∷ ps) [] (suc k) = refl
at_next (p ∷ ps) (t ∷ ts) (suc k) = at_next ps ts k

one_more : (ps : Lists) (ts : List Turn) (k : ℕ) → k < length ps → k < length ts
    → slice_set (turns_keeping (take k ps) ts) k (turn_keeping (get_or ps k None) (get_or ts k start))
    ≡ turns_keeping (take (suc k) ps) ts
one_more [] ts k in_ps in_ts = absurd (omega arith)
one_more (p ∷ ps) [] k in_ps in_ts = absurd (omega arith)
one_more (p ∷ ps) (t ∷ ts) zero in_ps in_ts = refl
one_more (p ∷ ps) (t ∷ ts) (suc k) in_ps in_ts =
    ap (λ (l : List Turn). turn_keeping p t ∷ l) (one_more ps ts k (omega arith) (omega arith))

module _ (t : TurnsSeen) (ps : Lists) (can : CanKeep t ps) (k : ℕ) (lt : k < length t.turns) where
  -- the first k scripts have their lists
  abbrev pub halfway : TurnsSeen
  halfway = record t { turns = turns_keeping (take k ps) t.turns }

  place : k + 1 - 1 ≡ k
  place = omega arith

  before : turn_at t (k + 1) ≡ get_or t.turns k start
  before = ap (λ (j : ℕ). get_or t.turns j start) place

  next : turn_at halfway (k + 1) ≡ get_or t.turns k start
  next = ap (λ (j : ℕ). get_or halfway.turns j start) place ∙ at_next ps t.turns k

  script : IsScript t (k + 1)
  script = (omega arith, omega (arith, lt))

  some_list : IsSome (get_or ps k None) → IsSome (get_or ps (k + 1 - 1) None)
  some_list some = subst (λ (j : ℕ). IsSome (get_or ps j None)) (sym place) some

  pub script_next : IsScript halfway (k + 1)
  script_next = let all = length_keeping (take k ps) t.turns in (omega arith, omega (arith, all, lt))

  pub out_next : IsSome (get_or ps k None) → IsSome (turn_at halfway (k + 1)).out
  out_next some =
      subst (λ (x : Turn). IsSome x.out) (before ∙ sym next) (can.is_out (k + 1) script (some_list some))

  pub has_next : IsSome (get_or ps k None) → HasNext halfway (k + 1)
  has_next some =
      subst (λ (x : Turn). x.answered < length (commands_at t (k + 1))) (before ∙ sym next)
      (can.next (k + 1) script (some_list some))

  pub put_next : with_turn halfway (k + 1) (turn_keeping (get_or ps k None) (turn_at halfway (k + 1)))
      ≡ record t { turns = turns_keeping (take (k + 1) ps) t.turns }
  put_next =
      let each = can.each in
      ap (λ (x : Turn). with_turn halfway (k + 1) (turn_keeping (get_or ps k None) x)) next
      ∙ ap (λ (j : ℕ). record t {
        turns = slice_set halfway.turns j (turn_keeping (get_or ps k None) (get_or t.turns k start));
      }) place
      ∙ ap (λ (l : List Turn). record t { turns = l }) (one_more ps t.turns k (omega (arith, lt, each)) lt)
      ∙ ap (λ (n : ℕ). record t { turns = turns_keeping (take n ps) t.turns }) (sym (add-one k))

-- ---- the nodes under their new names

module _ (f : ℕ → ℕ) where
  keeping_new : (turn : Turn) → turn_keeping (pins_then f turn.out) turn ≡ turn_with_pins f turn
  keeping_new turn = by turn.out
    where
      by : (o : Option Out)
          → turn_keeping (pins_then f o) (record turn { out = o }) ≡ record turn { out = option_map (with_pins f) o }
      by None = refl
      by (Some out) = refl

  pub keeping_all : (turns : List Turn)
      → turns_keeping (map (λ (x : Turn). pins_then f x.out) turns) turns ≡ map (turn_with_pins f) turns
  keeping_all [] = refl
  keeping_all (turn ∷ turns) =
      ap (λ (x : Turn). x ∷ turns_keeping (map (λ (z : Turn). pins_then f z.out) turns) turns) (keeping_new turn)
      ∙ ap (λ (l : List Turn). turn_with_pins f turn ∷ l) (keeping_all turns)

  some_under : (o : Option Out) → IsSome (pins_then f o) → IsSome o
  some_under None some = absurd (cc some)
  some_under (Some o) some = refl

  pub can_keep : (t : TurnsSeen) (ps : Lists) → ps ≡ map (λ (x : Turn). pins_then f x.out) t.turns
      → ((s : ℕ) → IsScript t s → IsSome (turn_at t s).out → HasNext t s) → CanKeep t ps
  can_keep t ps are next = record {
    each = ap length are ∙ length-map t.turns (λ (x : Turn). pins_then f x.out);
    is_out = out;
    next = λ s is some. next s is (out s is some);
  }
    where
      out : (s : ℕ) → IsScript t s → IsSome (get_or ps (s - 1) None) → IsSome (turn_at t s).out
      out s is some =
          let low = is.0 in
          let high = is.1 in
          let lt : s - 1 < length t.turns = omega (arith, low, high) in
          some_under (turn_at t s).out (subst IsSome (ap (λ (l : Lists). get_or l (s - 1) None) are
          ∙ get_or-map (λ (x : Turn). pins_then f x.out) t.turns (s - 1) start None lt) some)
