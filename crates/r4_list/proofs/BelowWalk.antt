-- The directories that are open, and what is left of them after each step.
use Rattle.std.proofs.Common.{◌≡◌, inl, inr, ℕ, suc, Bool, List, [], ◌∷◌, ◌++◌, length, take, Some, refl, sym, ap, subst, ◌∙◌, append_assoc, append-nil}
use Rattle.std.specs.Arc.{arc_value}
use Rattle.std.specs.BTreeSet.{BTreeSet, contains_by}
use Rattle.std.specs.Ordering.{nat_cmp}
use Rattle.std.proofs.lemmas.List.{same_from_push}
use Rattle.r4_base.specs.Image.{Image}
use Rattle.r4_base.specs.Value.{Content}
use Rattle.r4_base.specs.Volume.{HasContent}
use Rattle.r4_base.specs.declared.items.Target.{Target}
use Rattle.r4_cell.specs.Seen.{CellSeen, node_of}
use Rattle.r4_list.specs.Below.{GoesInto, IsBegun, IsFrameOf, IsPushed, IsPut, IsStack, printed_in}
use Rattle.r4_list.specs.declared.below.Below.{Below}
use Rattle.r4_list.specs.Frame.{StandsFrom}
use Rattle.r4_list.specs.Walking.{OpenDir, rest_of, IsWalking}
use Rattle.r4_list.specs.declared.frame.Frame.{Frame}
use Rattle.r4_list.proofs.LinesLeft.{ended}
use Rattle.r4_list.proofs.WalkSteps.{left}

-- ---- texts that begin so

pub begun_same : (a : List ℕ) → IsBegun a a
begun_same a = ([], sym (append-nil a))

pub begun_both : (a b c : List ℕ) → IsBegun a b → IsBegun b c → IsBegun a c
begun_both a b c (r, e) (s, h) = (r ++ s, h ∙ (ap (λ (t : List ℕ). t ++ s) e ∙ append_assoc a r s))

pub begun_take : (a b : List ℕ) → IsBegun a b → take (length a) b ≡ a
begun_take [] b h = refl
begun_take (x ∷ a) b (r, e) = subst (λ (t : List ℕ). take (suc (length a)) t ≡ x ∷ a) (sym e) (ap (λ (t : List ℕ). x ∷ t) (begun_take a (a ++ r) (r, refl)))

-- ---- the open directories and their frames

pub walks_same : (m : Content) (start : Target) (fs : List OpenDir) (b b' : Below) → b'.printed ≡ b.printed → IsWalking m start fs (printed_in b) → IsWalking m start fs (printed_in b')
walks_same m start fs b b' same w = subst (λ (set : BTreeSet ℕ). IsWalking m start fs (λ (id : ℕ). contains_by (nat_cmp id) set)) (sym same) w

module _ {n : ℕ} {image : Image} {m : Content} (c : HasContent n image m) where
  pub stack_longer : (path longer : List ℕ) (fs : List OpenDir) (frames : List Frame) → IsBegun path longer → IsStack c path fs frames → IsStack c longer fs frames
  stack_longer path longer [] frames b h = h
  stack_longer path longer (f ∷ fs) frames b (rest, frame, is, of, begun, on) = (rest, frame, is, of, begun_both f.path path longer begun b, on)

  -- a directory is gone into, or nothing is left of it
  pub record Settles (start : Target) (steps : ℕ) (f : OpenDir) (fs : List OpenDir) (printed : ℕ → Bool) (path : List ℕ) (frames : List Frame) : Type 0 where
    pub gs : List OpenDir
    pub stack : IsStack c path gs frames
    pub walks : IsWalking m start gs printed
    pub rest : rest_of m steps (f ∷ fs) ≡ rest_of m steps gs

  pub settled : (start : Target) (steps : ℕ) (f : OpenDir) (fs : List OpenDir) (printed : ℕ → Bool) (path : List ℕ) (old new : List Frame)
      → IsBegun f.path path → IsStack c f.path fs old → IsWalking m start (f ∷ fs) printed → GoesInto c f old new → Settles start steps f fs printed path new
  settled start steps f fs printed path old new begun stack w (inl (none, same)) = record {
    gs = fs;
    stack = subst (λ (frames : List Frame). IsStack c path fs frames) (sym same) (stack_longer f.path path fs old begun stack);
    walks = left m start f fs printed w;
    rest = ended m steps f fs none;
  }
  settled start steps f fs printed path old new begun stack w (inr put) = record {
    gs = f ∷ fs;
    stack = (old, put.frame, put.is, put.of, begun, stack);
    walks = w;
    rest = refl;
  }

  -- the last frame is the one of the directory that was opened last
  pub popped : (path : List ℕ) (fs : List OpenDir) (frames rest : List Frame) (frame : Frame) → IsStack c path fs frames → frames ≡ rest ++ frame ∷ []
      → (f : OpenDir) × (gs : List OpenDir) × (fs ≡ f ∷ gs) × IsFrameOf c f frame × IsBegun f.path path × IsStack c f.path gs rest
  popped path [] frames rest frame h is = absurd (no_push rest frame (sym h ∙ is))
    where
      no_push : (xs : List Frame) (x : Frame) → [] ≡ xs ++ x ∷ [] → ⊥
      no_push [] x e = cc
      no_push (y ∷ xs) x e = cc
  popped path (f ∷ fs) frames rest frame (others, last, at, of, begun, on) is =
      let (same, one) = same_from_push others rest last frame (sym at ∙ is) in
      (f, fs, refl, subst (λ (x : Frame). IsFrameOf c f x) one of, begun, subst (λ (xs : List Frame). IsStack c f.path fs xs) same on)

  -- no frame is left
  pub none_open : (path : List ℕ) (fs : List OpenDir) → IsStack c path fs [] → fs ≡ []
  none_open path [] h = refl
  none_open path (f ∷ fs) (others, last, at, of, begun, on) = absurd (no_push others last at)
    where
      no_push : (xs : List Frame) (x : Frame) → [] ≡ xs ++ x ∷ [] → ⊥
      no_push [] x e = cc
      no_push (y ∷ xs) x e = cc

  -- the frame with another place
  pub pushed_of : (f g : OpenDir) (frame : Frame) (item entry : ℕ) (old new : List Frame) → IsFrameOf c f frame → f.dir ≡ g.dir → f.path ≡ g.path
      → StandsFrom m g (arc_value {X = CellSeen} frame.leaf) item entry → IsPushed frame item entry old new → IsPut c g old new
  pushed_of f g frame item entry old new of dir path stands p = record {
    frame = p.next;
    is = p.is;
    of = record {
      place = record {
        dir_is = ap (λ (o : Target). o.oid.0) (sym dir) ∙ (of.place.dir_is ∙ ap (λ (d : _). d.0) (sym p.dir));
        stored = subst (λ (x : _). c.store (arc_value {X = CellSeen} x).id ≡ Some (node_of (arc_value {X = CellSeen} x))) (sym p.leaf) of.place.stored;
        stands = subst (λ (x : _). StandsFrom m g (arc_value {X = CellSeen} x) p.next.item p.next.entry) (sym p.leaf)
            (subst (λ (i : ℕ). StandsFrom m g (arc_value {X = CellSeen} frame.leaf) i p.next.entry) (sym p.item_is)
            (subst (λ (j : ℕ). StandsFrom m g (arc_value {X = CellSeen} frame.leaf) item j) (sym p.entry_is) stands));
      };
      path = p.path ∙ (of.path ∙ ap (λ (t : List ℕ). length t) path);
    };
  }
