-- What cells ask for, by their level.
use Rattle.std.specs.Prelude.{◌≡◌, ◌≢◌, ◌==◌, List, length, Bool, true, false, not, ◌&&◌, ◌||◌}
use Rattle.std.specs.Prelude.{if◌then◌else◌, Option, None}
use Rattle.std.proofs.Common.{arith, refl, sym, ap, ◌∙◌}
use Rattle.std.specs.List.{list_any}
use Rattle.std.proofs.lemmas.Bool.{eq-eqb, ne_eqb}
use Rattle.r4_base.specs.Key.{rank}
use Rattle.r4_base.specs.Tree.{Name, Span}
use Rattle.r4_units.specs.r4_cell.Seen.{CellSeen, node_of}
use Rattle.r4_content.specs.Edited.{Edits, Intervals}
use Rattle.r4_twig_asks.proofs.r4_marking.Asked.{node_level}
use Rattle.r4_twig_asks.proofs.r4_path.Rising.{hi_is, lo_is}
use Rattle.r4_twig_asks.specs.r4_reach.Needs.{Ask, cell_asks, changes_pieces, is_met, is_touched, leaf_asks, node_asks, twig_asks, twig_turns}
use Rattle.r4_twig_asks.specs.r4_reach.Touched.{Body}

module _ (rs : Intervals) (x : CellSeen) where
  pub touched_low : x.level ≡ 1 → is_touched rs (node_of x) ≡ is_met rs (rank x.lo) (rank x.hi)
  touched_low one =
      ap (λ (t : Bool). if t then is_met rs (node_of x).lo (node_of x).hi
      else list_any (λ (s : Span). is_met rs s.lo s.hi) (node_of x).spans) (eq-eqb (node_of x).level 1 (node_level x ∙ one))
      ∙ (λ i. is_met rs (lo_is x i) (hi_is x i))

  pub touched_high : x.level ≢ 1 → is_touched rs (node_of x)
      ≡ list_any (λ (s : Span). is_met rs s.lo s.hi) (node_of x).spans
  touched_high other =
      ap (λ (t : Bool). if t then is_met rs (node_of x).lo (node_of x).hi
      else list_any (λ (s : Span). is_met rs s.lo s.hi) (node_of x).spans)
      (ne_eqb (node_of x).level 1 (λ one. other (sym (node_level x) ∙ one)))

module _ (b : Option Body) (e : Edits) (rs : Intervals) (x : CellSeen) (hs : List (Name × Ask)) where
  by_level : Bool → Bool → Option Ask
  by_level one two = if one then leaf_asks b e (node_of x) else (if two then twig_asks b e (node_of x) hs
      else node_asks b (node_of x) hs)

  abbrev is_asked : Bool
  is_asked = is_touched rs (node_of x) || not (length hs == 0)

  pub asks_none : is_asked ≡ false → cell_asks b e rs (node_of x) hs ≡ None
  asks_none off = ap (λ (t : Bool). if t then (if (node_of x).level == 1 then leaf_asks b e (node_of x)
      else (if (node_of x).level == 2 then twig_asks b e (node_of x) hs else node_asks b (node_of x) hs)) else None) off

  module _ (on : is_asked ≡ true) where
    asks_level : cell_asks b e rs (node_of x) hs ≡ (if (node_of x).level == 1 then leaf_asks b e (node_of x)
        else (if (node_of x).level == 2 then twig_asks b e (node_of x) hs else node_asks b (node_of x) hs))
    asks_level = ap (λ (t : Bool). if t then (if (node_of x).level == 1 then leaf_asks b e (node_of x)
        else (if (node_of x).level == 2 then twig_asks b e (node_of x) hs else node_asks b (node_of x) hs)) else None) on

    pub asks_leaf : x.level ≡ 1 → cell_asks b e rs (node_of x) hs ≡ leaf_asks b e (node_of x)
    asks_leaf one = asks_level ∙ ap (λ (t : Bool). if t then leaf_asks b e (node_of x)
        else (if (node_of x).level == 2 then twig_asks b e (node_of x) hs else node_asks b (node_of x) hs))
        (eq-eqb (node_of x).level 1 (node_level x ∙ one))

    pub asks_twig : x.level ≡ 2 → cell_asks b e rs (node_of x) hs ≡ twig_asks b e (node_of x) hs
    asks_twig two = asks_level ∙ (λ i. if no_leaf i then leaf_asks b e (node_of x)
        else (if is_twig i then twig_asks b e (node_of x) hs else node_asks b (node_of x) hs))
      where
        no_leaf : ((node_of x).level == 1) ≡ false
        no_leaf = ne_eqb (node_of x).level 1 (λ one. let level = node_level x in omega (arith, one, level, two))

        is_twig : ((node_of x).level == 2) ≡ true
        is_twig = eq-eqb (node_of x).level 2 (node_level x ∙ two)

    pub asks_node : x.level ≢ 1 → x.level ≢ 2 → cell_asks b e rs (node_of x) hs ≡ node_asks b (node_of x) hs
    asks_node not_one not_two = asks_level ∙ (λ i. if no_leaf i then leaf_asks b e (node_of x)
        else (if no_twig i then twig_asks b e (node_of x) hs else node_asks b (node_of x) hs))
      where
        no_leaf : ((node_of x).level == 1) ≡ false
        no_leaf = ne_eqb (node_of x).level 1 (λ one. not_one (sym (node_level x) ∙ one))

        no_twig : ((node_of x).level == 2) ≡ false
        no_twig = ne_eqb (node_of x).level 2 (λ two. not_two (sym (node_level x) ∙ two))

  -- ---- whether a twig turns

  turns_at : (touched twig : Bool) → is_touched rs (node_of x) ≡ touched → ((node_of x).level == 2) ≡ twig
      → twig_turns b e rs (node_of x) ≡ (touched && (twig && changes_pieces b e (node_of x)))
  turns_at touched twig t two = (λ i. t i && (two i && changes_pieces b e (node_of x)))

  pub turns_other : x.level ≢ 2 → false ≡ twig_turns b e rs (node_of x)
  turns_other other = none (is_touched rs (node_of x)) ∙ sym (turns_at (is_touched rs (node_of x)) false refl
      (ne_eqb (node_of x).level 2 (λ two. other (sym (node_level x) ∙ two))))
    where
      none : (y : Bool) → false ≡ (y && (false && changes_pieces b e (node_of x)))
      none true = refl
      none false = refl

  pub turns_still : is_touched rs (node_of x) ≡ false → false ≡ twig_turns b e rs (node_of x)
  turns_still off = sym (turns_at false ((node_of x).level == 2) off refl)

  pub turns_changed : x.level ≡ 2 → is_touched rs (node_of x) ≡ true
      → changes_pieces b e (node_of x) ≡ twig_turns b e rs (node_of x)
  turns_changed two on = sym (turns_at true true on (eq-eqb (node_of x).level 2 (node_level x ∙ two)))
