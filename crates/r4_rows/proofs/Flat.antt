-- The law of rows on lists of cells: no levels but those that the cells have.
use Rattle.std.proofs.Common.{◌≡◌, ◌⊎◌, inl, inr, ℕ, ◌<◌, ◌≤◌, List, refl, sym, ap, subst, ◌∙◌, arith}
use Rattle.std.specs.Prelude.{◌↔◌, Contains, IsSome, Option, None, Some}
use Rattle.std.specs.Option.{option_map}
use Rattle.std.proofs.lemmas.Option.{none-some, same_Some}
use Rattle.r4_base.specs.Key.{least, rank, top}
use Rattle.r4_base.specs.Tree.{Covers, CoversLeaf, Fits, InNode, IsNode, Name, Node, Root, Store}
use Rattle.r4_base.specs.Value.{Value}
use Rattle.r4_cell.specs.Patch.{IsChange, IsNewRoot, Names, NamesId, NeedsName, Patch, SameRange, patch_of}
use Rattle.r4_cell.specs.Patch.{root_of_pair}
use Rattle.r4_cell.specs.Seen.{CellSeen, node_of}
use Rattle.r4_patch.specs.Joining.{ids_of}
use Rattle.r4_patch.specs.Part.{IsPart, MeetsPart}
use Rattle.r4_patch.proofs.PartCells.{level_above}
use Rattle.r4_path.specs.Steps.{AreNaming, IsNameOf, name_of, root_pair}
use Rattle.r4_path.specs.Twigs.{CoversBelow, IsUnused}
use Rattle.r4_patch.proofs.Members.{Distinct, absent, found, have_names, there}
use Rattle.r4_path.proofs.TwigBelow.{id_cell}
use Rattle.r4_path.proofs.Rising.{InCell, hi_is, in_cell, in_node, level_is, lo_is}

-- the key lies in one of the leaves, or in an extent of one of the twigs
abbrev pub IsLowIn : List CellSeen → ℕ → Type 0
IsLowIn cells k = CoversBelow cells cells k

-- a cell of the level has the key
abbrev pub Has : List CellSeen → (level key : ℕ) → Type 0
Has cells l k = (c : CellSeen) × Contains cells c × (c.level ≡ l) × InCell c k

pub record IsAlike (high c : CellSeen) : Type 0 where
  pub id : c.id ≡ high.id
  pub level : c.level ≡ high.level
  pub lo : rank c.lo ≡ rank high.lo
  pub hi : rank c.hi ≡ rank high.hi

pub record IsRootAbove (r : Root) (new : List CellSeen) (high c : CellSeen) : Type 0 where
  pub id : high.id ≡ r.id
  pub above : high.level < c.level
  pub lo : rank c.lo ≡ least
  pub hi : rank c.hi ≡ top
  pub most : (x : CellSeen) → Contains new x → x.level ≤ c.level

abbrev pub EndsAt : Root → List CellSeen → (over : Option CellSeen) → (high c : CellSeen) → Type 0
EndsAt r new None high c = IsAlike high c
EndsAt r new (Some x) high c = (x ≡ c) × IsRootAbove r new high c

pub record IsFlat (t : Store Value) (r : Root) (old new : List CellSeen) (over : Option CellSeen)
    (high last : CellSeen) : Type 0 where
  pub part : IsPart t r
  pub there : (c : CellSeen) → Contains old c → t c.id ≡ Some (node_of c)
  pub distinct_old : Distinct old
  pub distinct_new : Distinct new
  pub nodes : (c : CellSeen) → Contains new c → IsNode (node_of c)
  pub covers_old : (l k : ℕ) → 2 ≤ l → Has old l k → Has new l k
  pub covers_new : (l k : ℕ) → 2 ≤ l → Has new l k → Has old l k ⊎ ((over ≡ Some last) × (l ≡ last.level))
  pub apart : (x y : CellSeen) (k : ℕ) → Contains new x → Contains new y → x.level ≡ y.level → 1 ≤ x.level → InCell x k
      → InCell y k
      → x.id ≡ y.id
  pub named : (n : Name) → AreNaming new n → IsNameOf new n ⊎ (AreNaming old n × (IsNameOf old n → ⊥))
  pub kept : (n : Name) → AreNaming old n → (IsNameOf old n → ⊥) → AreNaming new n
  pub high_in : Contains old high
  pub highest : (c : CellSeen) → Contains old c → c.level ≤ high.level
  pub under_old : (c : CellSeen) → Contains old c → (c ≡ high) ⊎ AreNaming old (name_of c)
  pub last_in : Contains new last
  pub under_new : (c : CellSeen) → Contains new c → (c ≡ last) ⊎ AreNaming new (name_of c)
  pub ends : EndsAt r new over high last
  pub leaves : (k : ℕ) → IsLowIn old k ↔ IsLowIn new k
  pub used : (c : CellSeen) → Contains new c → Contains (ids_of old) c.id ⊎ IsUnused t c.id

-- a cell of a list, by its number

same_fields : (id level lo hi i l a b : ℕ) → id ≡ i → level ≡ l → lo ≡ a → hi ≡ b
    → ◌≡◌ {A = Name} (record { id = id; level = level; lo = lo; hi = hi })
    (record { id = i; level = l; lo = a; hi = b })
same_fields id level lo hi i l a b e f g h = cc

pub same_name : (n : Name) (x : CellSeen) → n.id ≡ x.id → Fits n (node_of x) → n ≡ name_of x
same_name n x id fits =
    same_fields n.id n.level n.lo n.hi x.id x.level (rank x.lo) (rank x.hi) id (sym fits.level ∙ level_is x)
    (sym fits.lo ∙ lo_is x) (sym fits.hi ∙ hi_is x)

pub fits_name : (c : CellSeen) → Fits (name_of c) (node_of c)
fits_name c = record { level = level_is c; lo = lo_is c; hi = hi_is c }

same_range : (o c : CellSeen) → IsAlike o c → SameRange (node_of c) (node_of o)
same_range o c h = (
  level_is c ∙ (h.level ∙ sym (level_is o)),
  lo_is c ∙ (h.lo ∙ sym (lo_is o)),
  hi_is c ∙ (h.hi ∙ sym (hi_is o)),
)

root_is : (o : Option CellSeen) (q : Root) → option_map root_of_pair (root_pair o) ≡ Some q → (c : CellSeen)
    × (o ≡ Some c)
    × (q.id ≡ c.id) × (q.height ≡ c.level)
root_is None q h = absurd (none-some q h)
root_is (Some c) q h =
    let e : q ≡ record { id = c.id; height = c.level } = same_Some q (record { id = c.id; height = c.level }) (sym h) in
    (c, refl, ap (λ (x : Root). x.id) e, ap (λ (x : Root). x.height) e)

root_some : (o : Option CellSeen) → IsSome (option_map root_of_pair (root_pair o)) → (c : CellSeen) × (o ≡ Some c)
root_some None h = absurd cc
root_some (Some c) h = (c, refl)

some_root : (o : Option CellSeen) (c : CellSeen) → o ≡ Some c → IsSome (option_map root_of_pair (root_pair o))
some_root o c e = subst (λ (x : Option CellSeen). IsSome (option_map root_of_pair (root_pair x))) (sym e) refl

pub none_or_some : (o : Option CellSeen) → (o ≡ None) ⊎ ((c : CellSeen) × (o ≡ Some c))
none_or_some None = inl refl
none_or_some (Some c) = inr (c, refl)

module _ (t : Store Value) (r : Root) (old new : List CellSeen) (over : Option CellSeen) (high last : CellSeen)
    (is : IsFlat t r old new over high last) where
  abbrev p : Patch Value
  p = patch_of old new (root_pair over)

  has_old : (x : CellSeen) → Contains old x → p.old x.id ≡ Some (node_of x)
  has_old x at = there old x is.distinct_old at

  has_new : (x : CellSeen) → Contains new x → p.new x.id ≡ Some (node_of x)
  has_new x at = there new x is.distinct_new at

  -- an end, by cases
  alike : over ≡ None → IsAlike high last
  alike e = let ends : EndsAt r new None high last =
      subst (λ (o : Option CellSeen). EndsAt r new o high last) e is.ends in ends

  rooted : (c : CellSeen) → over ≡ Some c → (c ≡ last) × IsRootAbove r new high last
  rooted c e = let ends : EndsAt r new (Some c) high last =
      subst (λ (o : Option CellSeen). EndsAt r new o high last) e is.ends in ends

  level_as : (c : Node Value) (x : CellSeen) → c ≡ node_of x → c.level ≡ x.level
  level_as c x e = ap (λ (y : Node Value). y.level) e ∙ level_is x

  old_has : (l k : ℕ) → Covers p.old l k → Has old l k
  old_has l k (i, c, e, cl, at) =
      let (x, member, id, says) = found old i c e in
      (x, member, sym (level_as c x says) ∙ cl, in_cell x k (subst (λ (d : Node Value). InNode d k) says at))

  new_has : (l k : ℕ) → Covers p.new l k → Has new l k
  new_has l k (i, c, e, cl, at) =
      let (x, member, id, says) = found new i c e in
      (x, member, sym (level_as c x says) ∙ cl, in_cell x k (subst (λ (d : Node Value). InNode d k) says at))

  has_covers_old : (l k : ℕ) → Has old l k → Covers p.old l k
  has_covers_old l k (x, member, xl, at) = (x.id, node_of x, has_old x member, level_is x ∙ xl, in_node x k at)

  has_covers_new : (l k : ℕ) → Has new l k → Covers p.new l k
  has_covers_new l k (x, member, xl, at) = (x.id, node_of x, has_new x member, level_is x ∙ xl, in_node x k at)

  covers_new : (l k : ℕ) → 2 ≤ l → Covers p.new l k → Covers p.old l k
      ⊎ (IsSome p.root × ((i : ℕ) (c : Node Value) → p.old i ≡ Some c → c.level < l))
  covers_new l k two h = elim (is.covers_new l k two (new_has l k h)) [
    | inl g ↦ inl (has_covers_old l k g)
    | inr g ↦ inr (
      some_root over last g.0,
      λ j d f.
          let (x, member, id, says) = found old j d f in
          let most = is.highest x member in
          let above = (rooted last g.0).1.above in
          let dl = level_as d x says in
          let ll = g.1 in
          omega (arith, most, above, dl, ll),
    )
  ]

  new_root : (q : Root) → p.root ≡ Some q → IsNewRoot p.new q
  new_root q e =
      let (c, top_is, qi, qh) = root_is over q e in
      let (same, root) = rooted c top_is in
      let id : last.id ≡ q.id = ap (λ (y : CellSeen). y.id) (sym same) ∙ sym qi in
      let height : last.level ≡ q.height = ap (λ (y : CellSeen). y.level) (sym same) ∙ sym qh in
      record {
        node = node_of last;
        is = subst (λ i. p.new i ≡ Some (node_of last)) id (has_new last is.last_in);
        level = level_is last ∙ height;
        lo = lo_is last ∙ root.lo;
        hi = hi_is last ∙ root.hi;
        highest = λ i d f.
            let (x, member, xi, says) = found new i d f in
            let most = root.most x member in
            let dl = level_as d x says in
            omega (arith, most, dl, height);
      }

  apart : (i j : ℕ) (c d : Node Value) (k : ℕ) → p.new i ≡ Some c → p.new j ≡ Some d → c.level ≡ d.level → 1 ≤ c.level
      → InNode c k
      → InNode d k → i ≡ j
  apart i j c d k ei ej same low at_c at_d =
      let (x, mx, ix, sx) = found new i c ei in
      let (y, my, iy, sy) = found new j d ej in
      let lx = level_as c x sx in
      let ly = level_as d y sy in
      let in_x = in_cell x k (subst (λ (z : Node Value). InNode z k) sx at_c) in
      let in_y = in_cell y k (subst (λ (z : Node Value). InNode z k) sy at_d) in
      sym ix ∙ (is.apart x y k mx my (omega (arith, lx, ly, same)) (omega (arith, lx, low)) in_x in_y ∙ iy)

  names_new : (n : Name) → Names p.new n → AreNaming new n
  names_new n (i, c, e, member) =
      let (x, mx, id, says) = found new i c e in (x, mx, subst (λ (d : Node Value). Contains d.names n) says member)

  names_old : (n : Name) → Names p.old n → AreNaming old n
  names_old n (i, c, e, member) =
      let (x, mx, id, says) = found old i c e in (x, mx, subst (λ (d : Node Value). Contains d.names n) says member)

  new_names : (n : Name) → AreNaming new n → Names p.new n
  new_names n (x, mx, member) = (x.id, node_of x, has_new x mx, member)

  old_names : (n : Name) → AreNaming old n → Names p.old n
  old_names n (x, mx, member) = (x.id, node_of x, has_old x mx, member)

  -- what an old cell names fits an old cell of the number
  old_fits : (n : Name) (x : CellSeen) → AreNaming old n → Contains old x → n.id ≡ x.id → Fits n (node_of x)
  old_fits n x (y, my, member) mx id = is.part.named y.id (node_of y) (node_of x) n (is.there y my) member
      (subst (λ i. t i ≡ Some (node_of x)) (sym id) (is.there x mx))

  named : (n : Name) → Names p.new n → ((d : Node Value) × (p.new n.id ≡ Some d) × Fits n d)
      ⊎ ((p.old n.id ≡ None) × Names p.old n)
  named n h = elim (is.named n (names_new n h)) [
    | inl g ↦
        let (x, member, e) = g in
        inl (
          node_of x,
          subst (λ (m : Name). p.new m.id ≡ Some (node_of x)) (sym e) (has_new x member),
          subst (λ (m : Name). Fits m (node_of x)) (sym e) (fits_name x),
        )
    | inr g ↦
        let (naming, other) = g in
        inr (
          absent old n.id (λ x member id. other
              (x, member, same_name n x (sym id) (old_fits n x naming member (sym id)))),
          old_names n naming,
        )
  ]

  kept : (n : Name) → Names p.old n → p.old n.id ≡ None → Names p.new n
  kept n h gone = new_names n (is.kept n (names_old n h)
      (λ g. let (x, member, e) = g in
      none-some (node_of x)
      (sym gone ∙ subst (λ (m : Name). p.old m.id ≡ Some (node_of x)) (sym e) (has_old x member))))

  replaced : (i : ℕ) (c : Node Value) → p.old i ≡ Some c → ¬ (NamesId p.old i)
      → ((d : Node Value) × (p.new i ≡ Some d) × SameRange d c)
      ⊎ (IsSome p.root × ((j : ℕ) (d : Node Value) → p.old j ≡ Some d → d.level ≤ c.level))
  replaced i c e unnamed =
      let (x, member, id, says) = found old i c e in
      elim (is.under_old x member) [
        | inl top_is ↦
            let hi : high.id ≡ i = sym (ap (λ (y : CellSeen). y.id) top_is) ∙ id in
            let ch : c ≡ node_of high = says ∙ ap node_of top_is in
            elim (none_or_some over) [
              | inl bare ↦
                  let same = alike bare in
                  inl (
                    node_of last,
                    subst (λ j. p.new j ≡ Some (node_of last)) (same.id ∙ hi) (has_new last is.last_in),
                    subst (λ (d : Node Value). SameRange (node_of last) d) (sym ch) (same_range high last same),
                  )
              | inr above ↦ inr (
                some_root over above.0 above.1,
                λ j d f.
                    let (y, my, iy, sy) = found old j d f in
                    let most = is.highest y my in
                    let dl = level_as d y sy in
                    let cl = level_as c high ch in
                    omega (arith, most, dl, cl),
              )
            ]
        | inr naming ↦ absurd (unnamed (name_of x, old_names (name_of x) naming, id))
      ]

  high_unnamed : NamesId p.old high.id → ⊥
  high_unnamed (n, names, same) =
      let naming = names_old n names in
      let (y, my, member) = naming in
      let fits = old_fits n high naming is.high_in same in
      let up = (level_above (node_of y) n (is.part.nodes y.id (node_of y) (is.there y my)) member).0 in
      let most = is.highest y my in
      let fl = fits.level in
      let yl = level_is y in
      let hl = level_is high in
      omega (arith, up, most, fl, yl, hl)

  not_needed : (i : ℕ) (c : Node Value) → NeedsName p i c → IsAlike high last → high.id ≡ i → c ≡ node_of last → ⊥
  not_needed i c needs same hi says =
      let was : p.old i ≡ Some (node_of high) =
      subst (λ j. p.old j ≡ Some (node_of high)) hi (has_old high is.high_in) in
      elim needs [
        | inl gone ↦ none-some (node_of high) (sym gone ∙ was)
        | inr more ↦ elim more [
          | inl name ↦ high_unnamed (subst (NamesId p.old) (sym hi) name)
          | inr other ↦
              let (o, is_o, differs) = other in
              let one : o ≡ node_of high = same_Some o (node_of high) (sym is_o ∙ was) in
              let range = same_range high last same in
              let like : SameRange (node_of high) (node_of last) = (sym range.0, sym range.1, sym range.2) in
              differs (subst (λ (z : Node Value). SameRange z c) (sym one)
              (subst (SameRange (node_of high)) (sym says) like))
        ]
      ]

  reached : (i : ℕ) (c : Node Value) → p.new i ≡ Some c → NeedsName p i c → NamesId p.new i
      ⊎ ((q : Root) × (p.root ≡ Some q) × (q.id ≡ i))
  reached i c e needs =
      let (x, member, id, says) = found new i c e in
      elim (is.under_new x member) [
        | inl top_is ↦
            let li : last.id ≡ i = sym (ap (λ (y : CellSeen). y.id) top_is) ∙ id in
            elim (none_or_some over) [
              | inl bare ↦ absurd (not_needed i c needs (alike bare) (sym (alike bare).id ∙ li)
                  (says ∙ ap node_of top_is))
              | inr above ↦
                  let (d, e_d) = above in
                  let dl : d.id ≡ last.id = ap (λ (y : CellSeen). y.id) (rooted d e_d).0 in
                  inr (
                    record { id = d.id; height = d.level },
                    ap (λ (o : Option CellSeen). option_map root_of_pair (root_pair o)) e_d,
                    dl ∙ li,
                  )
            ]
        | inr naming ↦ inl (name_of x, new_names (name_of x) naming, id)
      ]

  old_low : (k : ℕ) → CoversLeaf p.old k → IsLowIn old k
  old_low k (inl h) =
      let (x, member, xl, at) = old_has 1 k h in inl (x, member, xl, in_node x k at)
  old_low k (inr (i, c, v, e, member, at)) =
      let (x, mx, id, says) = found old i c e in
      inr (v, (x, mx, subst (λ (d : Node Value). Contains d.spans v) says member), at)

  low_old : (k : ℕ) → IsLowIn old k → CoversLeaf p.old k
  low_old k (inl (x, member, xl, at)) = inl (x.id, node_of x, has_old x member, level_is x ∙ xl, at)
  low_old k (inr (v, (x, mx, member), at)) = inr (x.id, node_of x, v, has_old x mx, member, at)

  new_low : (k : ℕ) → CoversLeaf p.new k → IsLowIn new k
  new_low k (inl h) =
      let (x, member, xl, at) = new_has 1 k h in inl (x, member, xl, in_node x k at)
  new_low k (inr (i, c, v, e, member, at)) =
      let (x, mx, id, says) = found new i c e in
      inr (v, (x, mx, subst (λ (d : Node Value). Contains d.spans v) says member), at)

  low_new : (k : ℕ) → IsLowIn new k → CoversLeaf p.new k
  low_new k (inl (x, member, xl, at)) = inl (x.id, node_of x, has_new x member, level_is x ∙ xl, at)
  low_new k (inr (v, (x, mx, member), at)) = inr (x.id, node_of x, v, has_new x mx, member, at)

  pub flat_change : IsChange old new (root_pair over)
  flat_change = record {
    old_names = have_names old is.distinct_old;
    new_names = have_names new is.distinct_new;
    patch = record {
      nodes = λ i c e. let (x, member, id, says) = found new i c e in subst IsNode (sym says) (is.nodes x member);
      covers_old = λ l k two h. has_covers_new l k (is.covers_old l k two (old_has l k h));
      covers_new = covers_new;
      new_root = new_root;
      apart = apart;
      named = named;
      kept = kept;
      replaced = replaced;
      reached = reached;
      leaves_old = λ k h. low_new k ((is.leaves k).0 (old_low k h));
      leaves_new = λ k h. low_old k ((is.leaves k).1 (new_low k h));
    };
  }

  unused : (i : ℕ) (c : Node Value) → p.new i ≡ Some c → p.old i ≡ None → IsUnused t i
  unused i c e gone =
      let (x, member, id, says) = found new i c e in
      elim (is.used x member) [
        | inl again ↦
            let (o, in_o, same) = id_cell old x.id again in
            absurd (none-some (node_of o)
            (sym gone ∙ subst (λ j. p.old j ≡ Some (node_of o)) (same ∙ id) (has_old o in_o)))
        | inr h ↦ subst (IsUnused t) id h
      ]

  pub flat_meets : MeetsPart p t r
  flat_meets = record {
    meets = record {
      has_old = λ i c e.
          let (x, member, id, says) = found old i c e in
          subst (λ j. t j ≡ Some c) id (subst (λ (d : Node Value). t x.id ≡ Some d) (sym says) (is.there x member));
      free = λ i c e gone. (unused i c e gone).0;
      root_old = λ some.
          let (c, top_is) = root_some over some in (
            node_of high,
            subst (λ j. p.old j ≡ Some (node_of high)) (rooted c top_is).1.id (has_old high is.high_in),
          );
    };
    unnamed = λ i c e gone. (unused i c e gone).1;
  }
