-- What is asked of a closed atom can be met: by one that has taken up a committed cell.
use Rattle.std.proofs.Common.{◌≡◌, inl, inr, ⊎_elim, ℕ, ◌^◌, ◌<◌, Bool, true, false, cond, eqb, List, [], ◌∷◌}
use Rattle.std.proofs.Common.{Some, None, refl, sym, ap, ◌∙◌, subst, arith}
use Rattle.std.specs.Prelude.{Contains}
use Rattle.std.specs.Option.{option_or}
use Rattle.std.proofs.lemmas.Bool.{cases_eq, eq-eqb, eqb-true, ne_eqb}
use Rattle.r4_base.proofs.Choices.{never_both, nothing_in}
use Rattle.r4_base.specs.Tree.{Name, Node, Store}
use Rattle.r4_base.specs.Value.{Content, Value}
use Rattle.r4_base.specs.Volume.{HasContent, root_of}
use Rattle.r4_base.proofs.Members.{no_member}
use Rattle.r4_placed.specs.r4_cell.Seen.{CellSeen, node_of}
use Rattle.r4_placed.specs.r4_space.Space.{freed_by, is_claimed, up_to}
use Rattle.r4_placed.specs.r4_space.declared.things.Claim.{Claim}
use Rattle.r4_placed.proofs.r4_wander.Members.{any_cases, any_here}
use Rattle.r4_placed.specs.r4_sets.Renaming.{IsRenamed, IsRenaming, renamed_name}
use Rattle.r4_placed.specs.r4_sets.Session.{Session, only, picks, cells as cells_with}
use Rattle.r4_flushed.specs.Flushed.{IsSealedTo, MayStand}
use Rattle.r4_placed.specs.Flushing.{Flushing, IsAtRest, swapped, moves, name_after}
use Rattle.r4_flushed.specs.Sample.{IsOfOne, overwrites, took, with_one}
use Rattle.r4_placed.specs.r4_sealed.Commits.{is_freed, spot, spot_of}

one_of : (x y : CellSeen) → Contains (x ∷ []) y → y ≡ x
one_of x y one = ⊎_elim (λ is. is) (λ no. absurd (nothing_in y no)) (any_cases x [] y one)

own_name : (x : CellSeen) → spot (overwrites x) x ≡ x.id
own_name x = go (eqb x.id x.id)
  where
    go : (t : Bool) → spot_of (option_or None (cond t None None)) x.id ≡ x.id
    go true = refl
    go false = refl

stays : (x : CellSeen) (i : ℕ) → swapped (moves (overwrites x) (x ∷ [])) i ≡ i
stays x i = elim (cases_eq i x.id) [
  | inl is ↦ ap (λ (t : Bool). cond t (spot (overwrites x) x) (cond (eqb i (spot (overwrites x) x)) x.id i))
      (eq-eqb i x.id is) ∙ own_name x ∙ sym is
  | inr other ↦ ap (λ (t : Bool). cond t (spot (overwrites x) x) (cond (eqb i (spot (overwrites x) x)) x.id i))
      (ne_eqb i x.id other) ∙ ap (λ (t : Bool). cond t x.id i)
      (ne_eqb i (spot (overwrites x) x) (λ e. other (e ∙ own_name x)))
]

pick_same : {A : Type 0} (b : Bool) (y : A) → cond b y y ≡ y
pick_same true y = refl
pick_same false y = refl

module _ (n : ℕ) (work : Flushing) (m : Content) (c : HasContent n work.base m) (x : CellSeen)
    (one : IsOfOne work x c)
  where
    low : x.id < 2 ^ 63
    low = let lt : x.id < work.space.block_count = subst (λ (k : ℕ). x.id < k) one.here.count
        (c.places x.id (node_of x) one.there).0 in omega (arith, lt, one.lawful.most)

    pub at_rest : IsAtRest n (with_one work x) m
    at_rest = record {
      content = c;
      image = one.image;
      log = one.log;
      prev = one.prev;
      here = one.here;
      lawful = one.lawful;
      still_lawful = one.lawful;
      within = one.within;
      blocks = one.blocks;
      none_placed = one.none_placed;
      names = (λ no. absurd (no_member x.id no), tt);
      chosen = (refl, low, tt);
      old = λ y in_y low_y. (node_of x, ap (λ (z : CellSeen). c.store z.id) (one_of x y in_y) ∙ one.there);
    }

    module _ (stands : MayStand x) where
      abbrev a : ℕ
      a = work.atom.0

      abbrev to : ℕ → ℕ
      to = name_after (with_one work x)

      owner_is : (j : ℕ) → cond (eqb j x.id) (Some a) None ≡ Some a → j ≡ x.id
      owner_is j e = go (eqb j x.id) refl e
        where
          go : (t : Bool) → eqb j x.id ≡ t → cond t (Some a) None ≡ Some a → j ≡ x.id
          go true is e = eqb-true _ _ is
          go false is e = absurd (cc e)

      same_name : (y : Name) → renamed_name to y ≡ y
      same_name y = ap (λ (k : ℕ). record y { id = k }) (stays x y.id)

      abbrev session : Session
      session = took c.store (root_of c.super) m x.id work.atom

      same_cells : (j : ℕ) → cells_with session (only a) j ≡ c.store j
      same_cells j = pick_same (picks (only a) (cond (eqb j x.id) (Some a) None)) (c.store j)

      kept_name : (d : Node Value) → IsRenamed to d d
      kept_name d = record {
        level = refl;
        lo = refl;
        hi = refl;
        names_to = λ y in_y. subst (Contains d.names) (sym (same_name y)) in_y;
        names_from = λ y in_y. (y, in_y, sym (same_name y));
        spans = λ y. (λ h. h, λ h. h);
        units = λ k v. (λ h. h, λ h. h);
      }

      renaming : (t : Store Value) → ((j : ℕ) → t j ≡ c.store j) → IsRenaming to to t c.store
      renaming t same = record {
        to = λ i d is. (d, ap c.store (stays x i) ∙ sym (same i) ∙ is, kept_name d);
        from = λ j d is. (d, ap t (stays x j) ∙ same j ∙ is, kept_name d);
        back = λ i. ap to (stays x i) ∙ stays x i;
        again = λ i. ap to (stays x i) ∙ stays x i;
      }

      none_freed : (b : ℕ) → is_freed work.space work.atom b ≡ false
      none_freed b = ap (λ (l : List Claim). is_claimed (freed_by (up_to work.space.sealed work.atom) l) b)
          one.none_deferred

      pub is_sealed : IsSealedTo session (with_one work x) c.store c.store c.store
      is_sealed = record {
        flushed = record {
          alone = λ i. refl;
          mine = λ i d own there. (x, any_here x [] x refl, sym (owner_is i own));
          owned = λ y in_y. (
            ap (λ (t : Bool). cond t (Some a) None) (eq-eqb y.id x.id
                (ap (λ (z : CellSeen). z.id) (one_of x y in_y))),
            (node_of x, ap (λ (z : CellSeen). c.store z.id) (one_of x y in_y) ∙ one.there),
          );
          renaming = renaming (cells_with session (only a)) same_cells;
          node = λ y in_y. subst (λ (z : CellSeen). c.store (spot (overwrites x) z) ≡ Some (node_of z))
              (sym (one_of x y in_y)) (ap c.store (own_name x) ∙ one.there);
          stands = λ y in_y. subst MayStand (sym (one_of x y in_y)) stands;
          others = λ i d out still there. there;
          deferred = λ b. (
            λ e. absurd (never_both (is_freed work.space work.atom b) e (none_freed b)),
            λ g. absurd (cc (sym g.gone ∙ g.was.1)),
          );
        };
        memory = renaming c.store (λ j. refl);
        clean = λ i e. refl;
        unowned = λ y in_y high.
            let same : y.id ≡ x.id = ap (λ (z : CellSeen). z.id) (one_of x y in_y) in
            let small = low in absurd (omega (arith, high, small, same));
      }
