-- A standing twig that is packed anew, as one step.
use Rattle.std.proofs.Common.{◌≡◌, ◌⊎◌, inl, inr, ℕ, ◌<◌, List, [], ◌∷◌, ◌++◌, reverse, refl, ap, sym, subst, ◌∙◌, arith}
use Rattle.std.specs.Prelude.{Contains, None}
use Rattle.std.proofs.lemmas.List.{reverse-reverse}
use Rattle.std.proofs.lemmas.List.Elements.{Contains-append_cases, Contains-append_left, Contains-append_right}
use Rattle.r4_base.specs.Tree.{Root, Store}
use Rattle.r4_base.specs.Value.{Value}
use Rattle.r4_measure.specs.r4_branch.declared.piece.TwigPiece.{TwigPiece}
use Rattle.r4_measure.specs.r4_cell.Patch.{IsChange}
use Rattle.r4_measure.specs.r4_cell.Seen.{CellSeen}
use Rattle.r4_measure.specs.r4_cell.declared.change.Change.{Change}
use Rattle.r4_measure.specs.r4_cell.declared.change.Fresh.{Fresh}
use Rattle.r4_extent_edit.proofs.GraftEffect.{IsRepacked, graft_effect, graft_names, graft_root}
use Rattle.r4_extent_edit.specs.Effects.{patch_with}
use Rattle.r4_measure.specs.Grafting.{Beside, IsRegrafted}
use Rattle.r4_measure.proofs.Climb.{in_left}
use Rattle.r4_measure.proofs.Kept.{not_named}
use Rattle.r4_measure.specs.r4_patch.Joining.{ids_of}
use Rattle.r4_measure.specs.r4_patch.Part.{IsPart, MeetsPart}
use Rattle.r4_measure.specs.r4_path.Grafts.{Grafts, GraftsBelow, GraftsUp, IsGraftBelow, IsGraftBelowIn, IsGraftBelowUp, IsGraftIn, IsGraftedUp}
use Rattle.r4_measure.specs.r4_path.Steps.{Ascends, OnlyTakes}
use Rattle.r4_twig_work.specs.Regrafting.{DoesBelow, IsRegraftable}
use Rattle.r4_measure.proofs.r4_work.InPlace.{now_effect, now_part, now_working, standing_is}
use Rattle.r4_measure.proofs.r4_work.Paths.{ascends_from}
use Rattle.r4_measure.specs.r4_work.Working.{IsNextEdit, IsPutInPlace, IsWorking, now_of, root_of, standing, twig_path_of}
use Rattle.r4_measure.specs.r4_work.declared.working.WorkingSet.{WorkingSet}

HasTwig : List CellSeen → Type 0
HasTwig xs = (twig : CellSeen) × (ups : List CellSeen) × (xs ≡ twig ∷ ups)

module _ (t : Store Value) (r : Root) (before : Fresh) (w : WorkingSet) (key : ℕ) (qs : List TwigPiece) (x : Beside) (first : ℕ) (is : IsRegraftable t r before w key qs x first) where
  abbrev s : Store Value
  s = now_of w t

  abbrev root : Root
  root = root_of w r

  part : IsPart s root
  part = now_part t r before w is.working

  has_twig : (xs : List CellSeen) → IsGraftBelowUp s root qs x.below x.blocks first before xs → HasTwig xs
  unfolding HasTwig
  has_twig [] h = absurd h
  has_twig (twig ∷ ups) h = (twig, ups, refl)

  module _ (up : List CellSeen) (e : up ≡ reverse (twig_path_of w key)) where
    turned : reverse up ≡ twig_path_of w key
    turned = ap reverse e ∙ reverse-reverse (twig_path_of w key)

    -- the path is one that may be packed anew
    pub regraft_below : IsGraftBelowIn s root up qs x.below x.blocks first before
    regraft_below = subst (IsGraftBelowUp s root qs x.below x.blocks first before) (sym turned) is.graft

    pub regraft_path : IsGraftIn s root up qs before
    regraft_path = grafted (reverse up) regraft_below
      where
        grafted : (xs : List CellSeen) → IsGraftBelowUp s root qs x.below x.blocks first before xs → IsGraftedUp s root qs before xs
        grafted [] h = h
        grafted (twig ∷ ups) h = h.grafted

    module _ (after : Fresh) (c : Change) (change : IsChange c.old (c.new ++ x.blocks) c.root) (meets : MeetsPart (patch_with c x.blocks) s root) (grafts : GraftsBelow up qs x.below before after c) (takes : OnlyTakes before after) where
      d : Change
      d = record c { new = c.new ++ x.blocks }

      module _ (twig : CellSeen) (ups : List CellSeen) (path : twig_path_of w key ≡ twig ∷ ups) where
        at_twig : IsGraftBelow s root qs x.below x.blocks first before twig ups
        at_twig = subst (IsGraftBelowUp s root qs x.below x.blocks first before) path is.graft

        ascends : Ascends s None (twig ∷ ups)
        ascends = subst (Ascends s None) path (ascends_from s root part (standing w) (standing_is t r before w is.working) key 7 2 (omega arith))

        grafts_are : Grafts twig ups qs before after grafts.change
        grafts_are = subst (GraftsUp qs before after grafts.change) (turned ∙ path) grafts.grafts

        repacked : IsRepacked s root twig ups qs x.below x.blocks before after grafts.change c
        repacked = record {
          part = part;
          level = at_twig.grafted.level;
          above = ascends.3;
          grafts = grafts_are;
          below = grafts.below;
          made = record { change = change; meets = meets };
        }

        -- a number that no old cell has was taken
        taken_new : (y : CellSeen) → (patch_with c x.blocks).old y.id ≡ None → Contains (ids_of x.below.old) y.id ⊎ (y.id < before.next) → y.id < after.next
        taken_new y gone (inr n) = omega (arith, n, takes)
        taken_new y gone (inl old) =
            absurd (not_named c.old y.id gone (subst (λ cs. Contains (ids_of cs) y.id) (sym grafts.below.old_is) (in_left x.below.old grafts.change.old y.id old)))

        names : (y : CellSeen) → Contains (c.new ++ x.blocks) y → (patch_with c x.blocks).old y.id ≡ None → y.id < after.next
        names y at gone = elim (Contains-append_cases c.new x.blocks y at) [
          | inr block ↦ taken_new y gone (is.taken y (Contains-append_right x.below.new x.blocks y block))
          | inl mine ↦ elim (Contains-append_cases x.below.new grafts.change.new y (subst (λ cs. Contains cs y) grafts.below.new_is mine)) [
            | inl leaf ↦ taken_new y gone (is.taken y (Contains-append_left x.below.new x.blocks y leaf))
            | inr node ↦ (graft_names repacked y node gone).1
          ]
        ]

        edit_at : IsNextEdit t r w before after (record c { new = c.new ++ x.blocks })
        edit_at = record {
          change = change;
          meets = meets;
          names = names;
          takes = takes;
          root = graft_root repacked;
        }

      pub regraft_next : IsNextEdit t r w before after (record c { new = c.new ++ x.blocks })
      unfolding HasTwig
      regraft_next = let (twig, ups, h) = has_twig (twig_path_of w key) is.graft in edit_at twig ups h

      module _ (now : WorkingSet) (put : IsPutInPlace w (record c { new = c.new ++ x.blocks }) now) where
        pub regraft_working : IsWorking t r after now
        regraft_working = now_working t r w now before after (record c { new = c.new ++ x.blocks }) is.working regraft_next put

        pub regraft_does : DoesBelow w now key qs x
        regraft_does twig ups at to path sets a f ew =
            now_effect t r w now before after (record c { new = c.new ++ x.blocks }) is.working regraft_next put a at f to ew
            (graft_effect (repacked twig ups path) at to sets.held sets.there sets.others)

        pub regraft_made : IsRegrafted t r before after w now key qs x
        unfolding HasTwig
        regraft_made =
            let (twig, ups, h) = has_twig (twig_path_of w key) is.graft in
            record {
              twig = twig;
              ups = ups;
              path = h;
              goes = is.goes;
              edit = record c { new = c.new ++ x.blocks };
              change = change;
              meets = meets;
              grafts = record {
                level = (at_twig twig ups h).grafted.level;
                mid = before;
                change = grafts.change;
                with_below = c;
                grafts = grafts_are twig ups h;
                below_is = grafts.below;
                is = refl;
                low = is.low;
                took = (omega arith, (let a = takes in omega (arith, a)), refl);
                takes = takes;
              };
              put = put;
              working = regraft_working;
            }
