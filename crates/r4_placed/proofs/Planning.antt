-- The blocks that are chosen for an atom's cells make a plan that is safe.
use Rattle.std.proofs.Common.{◌≡◌, ◌≢◌, ◌⊎◌, inl, inr, ⊎_elim, ℕ, ◌^◌, ◌≤◌, ◌<◌, Bool, true, false, ◌||◌, cond, eqb}
use Rattle.std.proofs.Common.{List, [], ◌∷◌, ◌++◌, map, get_or, Option, Some, None, refl, sym, ap, ◌∙◌, subst, arith}
use Rattle.std.specs.Prelude.{Contains}
use Rattle.std.specs.Option.{option_or}
use Rattle.std.proofs.lemmas.Bool.{cases_lt, eqb-true, ne_eqb, eq-eqb}
use Rattle.std.proofs.lemmas.List.Elements.{All-contains, Contains-get_or, Contains-append_cases}
use Rattle.r4_base.proofs.Choices.{never_both, nothing_in}
use Rattle.r4_base.specs.Image.{AreDifferent}
use Rattle.r4_base.specs.Bitmap.{is_fixed}
use Rattle.r4_base.specs.Tree.{Node}
use Rattle.r4_base.specs.Value.{Content, Value}
use Rattle.r4_base.specs.declared.things.BlockNo.{BlockNo}
use Rattle.r4_base.proofs.Members.{member_here, member_later, member_or_not, no_member}
use Rattle.r4_sealed.specs.r4_cell.Seen.{CellSeen}
use Rattle.r4_sealed.specs.r4_space.Space.{Space, is_taken}
use Rattle.r4_sealed.proofs.r4_sets.Carried.{not_true}
use Rattle.r4_sealed.specs.r4_place.Chosen.{AreChosen, IsChosen, behind, block_of, fresh_blocks, placed_all, placed_in}
use Rattle.r4_sealed.specs.r4_place.declared.placed.How.{How}
use Rattle.r4_sealed.specs.r4_place.declared.placed.How.TheVariants.{Fresh, Relocate, Overwrite}
use Rattle.r4_sealed.specs.r4_place.declared.placed.Placed.{Placed}
use Rattle.r4_sealed.proofs.r4_place.ChosenCells.{fresh_different, fresh_unused, fresh_used, others_stay, rest_stays}
use Rattle.r4_sealed.proofs.r4_wander.Members.{any_cases, any_here, any_later, in_map}
use Rattle.r4_sealed.specs.r4_wander.declared.plan.LogPlan.{LogPlan}
use Rattle.r4_sealed.specs.r4_commit.Places.{block_given, kept_at, overwritten, overwritten_blocks, place_of}
use Rattle.r4_sealed.specs.r4_commit.Plannable.{IsPlannable, is_marked_in, is_spoken_for}
use Rattle.r4_sealed.proofs.r4_commit.PlanFacts.{given_fresh, in_fresh}
use Rattle.r4_sealed.proofs.r4_commit.Safety.{not_taken}
use Rattle.r4_sealed.proofs.r4_commit.Differing.{different_apart, different_right}
use Rattle.r4_sealed.specs.Written.{IsSpaceOf}
use Rattle.r4_placed.specs.Flushing.{Flushing, IsAtRest, commit_of, moves, name_after}
use Rattle.r4_sealed.specs.Commits.{HasPlan, IsCommitOn, spot, spot_of}
use Rattle.r4_placed.proofs.Swapped.{AllApart, swap_stays, swap_to, swap_twice}

-- ---- which block a name gets

is_some_or : (o : Option BlockNo) (b : BlockNo) → (a : BlockNo) × (option_or o (Some b) ≡ Some a)
is_some_or None b = (b, refl)
is_some_or (Some a) b = (a, refl)

pub some_or : (o q : Option BlockNo) (b : BlockNo) → o ≡ Some b → option_or o q ≡ Some b
some_or o q b e = rw e refl

pub none_or : (o q : Option BlockNo) → o ≡ None → q ≡ None → option_or o q ≡ None
none_or o q e f = rw (e, f) refl

-- a name without a block gets one
pub fresh_given : (near : ℕ) (s : Space) (cs : List CellSeen) (ps : List Placed) (x : CellSeen)
    → AreChosen near s cs ps → Contains cs x → 2 ^ 63 ≤ x.id → (b : BlockNo) × (place_of ps x.id ≡ Some b)
fresh_given near s [] [] x h one high = absurd (nothing_in x one)
fresh_given near s [] (p ∷ ps) x h one high = absurd h
fresh_given near s (c ∷ cs) [] x h one high = absurd h
fresh_given near s (c ∷ cs) (p ∷ ps) x h one high = ⊎_elim
    (λ is. here p.how is h.1)
    (λ later. let (b, some) = fresh_given (behind near p.how) (placed_in s p.how) cs ps x h.2 later high in
    (b, some_or (place_of ps x.id) _ b some))
    (any_cases c cs x one)
  where
    here : (how : How) → x ≡ c → IsChosen near s c how → (b : BlockNo)
        × (option_or (place_of ps x.id) (cond (eqb p.node.0 x.id) (block_given how) None) ≡ Some b)
    here (Fresh a) is chosen =
        let same : p.node.0 ≡ x.id = h.0 ∙ ap (λ (y : CellSeen). y.id) (sym is) in
        let (b, some) = is_some_or (place_of ps x.id) a in
        (b, ap (λ (t : Bool). option_or (place_of ps x.id) (cond t (Some a) None)) (eq-eqb p.node.0 x.id same) ∙ some)
    here (Relocate a) is chosen = absurd chosen
    here Overwrite is low = let same : x.id ≡ c.id = ap (λ (y : CellSeen). y.id) is in
        absurd (omega (arith, high, low, same))

-- a block's name gets none
pub old_kept : (near : ℕ) (s : Space) (cs : List CellSeen) (ps : List Placed) (name : ℕ) → AreChosen near s cs ps
    → name < 2 ^ 63 → place_of ps name ≡ None
old_kept near s [] [] name h low = refl
old_kept near s [] (p ∷ ps) name h low = absurd h
old_kept near s (c ∷ cs) [] name h low = absurd h
old_kept near s (c ∷ cs) (p ∷ ps) name h low = none_or (place_of ps name) _
    (old_kept (behind near p.how) (placed_in s p.how) cs ps name h.2 low) (here p.how h.1 (eqb p.node.0 name) refl)
  where
    here : (how : How) → IsChosen near s c how → (t : Bool) → eqb p.node.0 name ≡ t
        → cond t (block_given how) None ≡ None
    here how chosen false e = refl
    here (Fresh a) chosen true e = let same : p.node.0 ≡ name = eqb-true _ _ e in let high = chosen.0 in let named =
        h.0 in absurd (omega (arith, high, low, same, named))
    here (Relocate a) chosen true e = absurd chosen
    here Overwrite chosen true e = refl

-- nor does one of no cell
not_named : (near : ℕ) (s : Space) (cs : List CellSeen) (ps : List Placed) (name : ℕ) → AreChosen near s cs ps
    → (Contains (map (λ (x : CellSeen). x.id) cs) name → ⊥) → place_of ps name ≡ None
not_named near s [] [] name h out = refl
not_named near s [] (p ∷ ps) name h out = absurd h
not_named near s (c ∷ cs) [] name h out = absurd h
not_named near s (c ∷ cs) (p ∷ ps) name h out =
    none_or (place_of ps name) _ (not_named (behind near p.how) (placed_in s p.how) cs ps name h.2
    (λ m. out (member_later c.id _ name m)))
    (ap (λ (t : Bool). cond t (block_given p.how) None)
    (ne_eqb p.node.0 name (λ is. out (member_here c.id _ name (sym is ∙ h.0)))))

-- each fresh block is given to a cell
pub fresh_of : (near : ℕ) (s : Space) (cs : List CellSeen) (ps : List Placed) (b : ℕ) → AreChosen near s cs ps
    → AreDifferent (map (λ (x : CellSeen). x.id) cs) → Contains (fresh_blocks ps) b
    → (x : CellSeen) × Contains cs x × (2 ^ 63 ≤ x.id) × ((a : BlockNo) × (place_of ps x.id ≡ Some a) × (a.0 ≡ b))
fresh_of near s [] [] b h names one = absurd (no_member b one)
fresh_of near s [] (p ∷ ps) b h names one = absurd h
fresh_of near s (c ∷ cs) [] b h names one = absurd h
fresh_of near s (c ∷ cs) (p ∷ ps) b h names one = ⊎_elim
    (λ mine. here p.how h.1 mine)
    (λ later.
    let (x, in_cs, high, (a, some, is)) = fresh_of (behind near p.how)
    (placed_in s p.how) cs ps b h.2 names.1 later in
    (x, any_later c cs x in_cs, high, (a, some_or (place_of ps x.id) _ a some, is)))
    (Contains-append_cases (block_of p.how) (fresh_blocks ps) b one)
  where
    here : (how : How) → IsChosen near s c how → Contains (block_of how) b → (x : CellSeen) × Contains (c ∷ cs) x
        × (2 ^ 63 ≤ x.id) × ((a : BlockNo) × (option_or (place_of ps x.id)
        (cond (eqb p.node.0 x.id) (block_given how) None) ≡ Some a) × (a.0 ≡ b))
    here (Fresh a) chosen mine =
        let none : place_of ps c.id ≡ None = not_named (behind near p.how)
        (placed_in s p.how) cs ps c.id h.2 names.0 in
        let some : option_or (place_of ps c.id) (cond (eqb p.node.0 c.id) (Some a) None) ≡ Some a =
        ap (λ (t : Bool). option_or (place_of ps c.id) (cond t (Some a) None)) (eq-eqb p.node.0 c.id h.0)
        ∙ ap (λ (o : Option BlockNo). option_or o (Some a)) none in (
          c,
          any_here c cs c refl,
          chosen.0,
          (
            a,
            some,
            ⊎_elim (λ is. sym is) (λ no. absurd (nothing_in b no))
                (any_cases a.0 [] b mine),
          ),
        )
    here (Relocate a) chosen mine = absurd chosen
    here Overwrite chosen mine = absurd (nothing_in b mine)

-- ---- what is overwritten

-- one that is overwritten is a cell that gets no block
pub kept_from : (place : ℕ → Option BlockNo) (cells : List CellSeen) (b : ℕ)
    → Contains (map (λ (x : CellSeen). x.id) (overwritten place cells)) b → (x : CellSeen) × Contains cells x
    × (place x.id ≡ None) × (b ≡ x.id)
kept_from place [] b h = absurd (nothing_in b h)
kept_from place (c ∷ cs) b h = go (λ l. let (x, one, none, is) = kept_from place cs b l in
    (x, any_later c cs x one, none, is)) (place c.id) refl h
  where
    go : (Contains (map (λ (x : CellSeen). x.id) (overwritten place cs)) b → (x : CellSeen) × Contains (c ∷ cs) x
        × (place x.id ≡ None) × (b ≡ x.id)) → (o : Option BlockNo) → place c.id ≡ o
        → Contains (map (λ (x : CellSeen). x.id) (kept_at c o ++ overwritten place cs)) b → (x : CellSeen)
        × Contains (c ∷ cs) x × (place x.id ≡ None) × (b ≡ x.id)
    go later (Some a) some l = later l
    go later None none l = ⊎_elim (λ is. (c, any_here c cs c refl, none, is)) later (any_cases c.id _ b l)

-- one block is given by one answer
one_answer : (ps : List Placed) (p q : Placed) (b : ℕ) → AreDifferent (fresh_blocks ps) → Contains ps p
    → Contains ps q → Contains (block_of p.how) b → Contains (block_of q.how) b → p ≡ q
one_answer [] p q b different one two mine his = absurd (nothing_in p one)
one_answer (r ∷ rs) p q b different one two mine his = ⊎_elim
    (λ is. ⊎_elim
    (λ also. is ∙ sym also)
    (λ later. absurd (different_apart (block_of r.how) (fresh_blocks rs) b different
    (subst (λ (x : Placed). Contains (block_of x.how) b) is mine) (in_fresh rs q b later his)))
    (any_cases r rs q two))
    (λ first. ⊎_elim
    (λ is. absurd (different_apart (block_of r.how) (fresh_blocks rs) b different
    (subst (λ (x : Placed). Contains (block_of x.how) b) is his) (in_fresh rs p b first mine)))
    (λ later. one_answer rs p q b (different_right (block_of r.how) (fresh_blocks rs) different) first later mine his)
    (any_cases r rs q two))
    (any_cases r rs p one)

one_name : (answers : List Placed) (x y : ℕ) (a b : BlockNo) → AreDifferent (fresh_blocks answers)
    → place_of answers x ≡ Some a → place_of answers y ≡ Some b → a.0 ≡ b.0 → x ≡ y
one_name answers x y a b different one two same =
    let mine = given_fresh answers x a one in
    let his = given_fresh answers y b two in
    let answer : mine.0 ≡ his.0 = one_answer answers mine.0 his.0 a.0 different mine.1 his.1 mine.3
    (subst (Contains (block_of his.0.how)) (sym same) his.3) in
    sym mine.2 ∙ ap (λ (p : Placed). p.node.0) answer ∙ his.2

pub below_or : (k : ℕ) → (k < 2 ^ 63) ⊎ (2 ^ 63 ≤ k)
below_or k = elim (cases_lt k (2 ^ 63)) [ inl low ↦ inl low | inr high ↦ inr high ]

-- a pair is that of a cell
pub from_pairs : (answers : List Placed) (cs : List CellSeen) (q : ℕ × ℕ) → Contains (moves answers cs) q
    → (y : CellSeen) × Contains cs y × (q ≡ (y.id, spot answers y))
from_pairs answers [] q one = absurd (nothing_in q one)
from_pairs answers (c ∷ cs) q one = ⊎_elim (λ is. (c, any_here c cs c refl, is))
    (λ later. let (y, in_y, is) = from_pairs answers cs q later in (y, any_later c cs y in_y, is))
    (any_cases (c.id, spot answers c) (moves answers cs) q one)

pub or_first : (a b : Bool) → (a || b) ≡ false → a ≡ false
or_first false b e = refl
or_first true b e = absurd cc

no_some : (o : Option BlockNo) (b : BlockNo) → o ≡ None → o ≡ Some b → ⊥
no_some o b e f = absurd (cc (sym e ∙ f))

module _ (n : ℕ) (work : Flushing) (m : Content) (r : IsAtRest n work m) where
  pub same_marks : (b : ℕ) → is_marked_in (placed_all work.space work.answers) b ≡ is_marked_in work.space b
  same_marks b = ap (λ (t : Space). is_marked_in t b) (rest_stays work.space work.answers)

  pub same_spoken : (b : ℕ) → is_spoken_for (placed_all work.space work.answers) b ≡ is_spoken_for work.space b
  same_spoken b = ap (λ (t : Space). is_spoken_for t b) (rest_stays work.space work.answers)

  pub same_count : (placed_all work.space work.answers).block_count ≡ work.space.block_count
  same_count = ap (λ (t : Space). t.block_count) (rest_stays work.space work.answers)

  pub low_name : (b : ℕ) → Contains (overwritten_blocks work.answers work.cells) b → (d : Node Value)
      × (r.content.store b ≡ Some d)
  low_name b one =
      let (x, in_cells, none, is) = kept_from (place_of work.answers) work.cells b one in
      elim (cases_lt x.id (2 ^ 63)) [
        | inl low ↦ let (d, at) = r.old x in_cells low in (d, ap r.content.store is ∙ at)
        | inr high ↦ let (a, some) = fresh_given 22 work.space work.cells work.answers x r.chosen in_cells high in
            absurd (no_some (place_of work.answers x.id) a none some)
      ]

  pub cell_marked : (b : ℕ) (d : Node Value) → r.content.store b ≡ Some d → (is_marked_in work.space b ≡ true)
      × (is_fixed work.space.block_count b ≡ false)
  cell_marked b d is =
      let place = r.content.places b d is in
      let lt : b < work.space.block_count = subst (λ (j : ℕ). b < j) r.here.count place.0 in
      (r.here.marks b lt ∙ place.2, subst (λ (j : ℕ). is_fixed j b ≡ false) r.here.count place.1)

  pub plannable : IsPlannable n work.base [] (placed_all work.space work.answers) work.cells work.answers work.next
      work.last
  plannable = record {
    image = r.image;
    log = r.log;
    few = omega arith;
    prev = r.prev;
    lawful = r.still_lawful;
    within = subst (λ (j : ℕ). j ≤ n) (sym same_count) r.within;
    blocks = r.blocks ∙ sym same_count;
    names = r.names;
    overwritten = λ k d lt. over (get_or (overwritten_blocks work.answers work.cells) k d)
        (Contains-get_or (overwritten_blocks work.answers work.cells) k d lt);
    different = fresh_different 22 work.space work.cells work.answers r.lawful.placed_size r.chosen;
    placed = λ k d lt. (
      fresh_used 22 work.space work.cells work.answers r.lawful.placed_size r.chosen k d lt,
      same_spoken _ ∙ (not_taken work.space _ (fresh_unused 22 work.space work.cells work.answers r.lawful.placed_size
          r.chosen k d lt).1).1,
    );
    kept = λ b one. absurd (no_member b one);
    in_place = λ b one. absurd (no_member b one);
  }
    where
      over : (b : ℕ) → Contains (overwritten_blocks work.answers work.cells) b
          → (is_marked_in (placed_all work.space work.answers) b ≡ true)
          × (is_fixed (placed_all work.space work.answers).block_count b ≡ false)
      over b one =
          let (d, is) = low_name b one in
          let q = cell_marked b d is in
          (same_marks b ∙ q.0, subst (λ (j : ℕ). is_fixed j b ≡ false) (sym same_count) q.1)

  -- the space with the blocks placed is still that of the content
  pub space_placed : IsSpaceOf r.content (placed_all work.space work.answers)
  space_placed = record {
    count = r.here.count ∙ sym same_count;
    marks = λ b lt. same_marks b
        ∙ r.here.marks b (subst (λ (j : ℕ). b < j) same_count lt);
  }

  -- a cell with a block stands there, and one without stands on a fresh one
  pub old_spot : (x : CellSeen) → Contains work.cells x → x.id < 2 ^ 63 → spot work.answers x ≡ x.id
  old_spot x one low = ap (λ (o : Option BlockNo). spot_of o x.id)
      (old_kept 22 work.space work.cells work.answers x.id r.chosen low)

  pub placed_spot : (b : ℕ) → get_or (placed_all work.space work.answers).placed b false ≡ true → (x : CellSeen)
      × Contains work.cells x × (2 ^ 63 ≤ x.id) × (spot work.answers x ≡ b)
  placed_spot b on = ⊎_elim
      (λ fresh.
      let (x, one, high, (a, some, is)) = fresh_of 22 work.space work.cells work.answers b r.chosen r.names fresh in
      (x, one, high, ap (λ (o : Option BlockNo). spot_of o x.id) some ∙ is))
      (λ out. absurd (never_both (get_or work.space.placed b false) (sym (others_stay work.space work.answers b out)
      ∙ on)
      (r.none_placed b)))
      (member_or_not (fresh_blocks work.answers) b)

  pub fresh_spot : (x : CellSeen) → Contains work.cells x → 2 ^ 63 ≤ x.id
      → Contains (fresh_blocks work.answers) (spot work.answers x)
  fresh_spot x one high =
      let (a, some) = fresh_given 22 work.space work.cells work.answers x r.chosen one high in
      let (p, in_answers, named, mine) = given_fresh work.answers x.id a some in
      subst (Contains (fresh_blocks work.answers)) (sym (ap (λ (o : Option BlockNo). spot_of o x.id) some))
      (in_fresh work.answers p a.0 in_answers mine)

  -- ---- the names of cells and of blocks

  low_block : (b : ℕ) → b < work.space.block_count → b < 2 ^ 63
  low_block b lt = omega (arith, lt, r.lawful.most)

  pub fresh_free : (x : CellSeen) → Contains work.cells x → 2 ^ 63 ≤ x.id → (spot work.answers x < 2 ^ 63)
      × (is_marked_in work.space (spot work.answers x) ≡ false)
  fresh_free x one high =
      let unused = All-contains (λ (b : ℕ). (b < work.space.block_count) × (is_taken work.space b ≡ false))
      (fresh_blocks work.answers) (spot work.answers x)
      (fresh_unused 22 work.space work.cells work.answers r.lawful.placed_size r.chosen)
      (fresh_spot x one high) in (
        low_block (spot work.answers x) unused.0,
        or_first (is_marked_in work.space (spot work.answers x)) _
            (not_taken work.space (spot work.answers x) unused.1).1,
      )

  -- each stands on a block of the volume that is not fixed
  pub spot_block : (x : CellSeen) → Contains work.cells x → (spot work.answers x < work.space.block_count)
      × (is_fixed work.space.block_count (spot work.answers x) ≡ false)
  spot_block x one = elim (cases_lt x.id (2 ^ 63)) [
    | inl low ↦
        let (d, is) = r.old x one low in
        let place = r.content.places x.id d is in
        let at : x.id ≡ spot work.answers x = sym (old_spot x one low) in (
          subst (λ (j : ℕ). j < work.space.block_count) at (subst (λ (j : ℕ). x.id < j) r.here.count place.0),
          subst (λ (j : ℕ). is_fixed work.space.block_count j ≡ false) at
              (subst (λ (j : ℕ). is_fixed j x.id ≡ false) r.here.count place.1),
        )
    | inr high ↦
        let unused = All-contains (λ (b : ℕ). (b < work.space.block_count) × (is_taken work.space b ≡ false))
        (fresh_blocks work.answers) (spot work.answers x)
        (fresh_unused 22 work.space work.cells work.answers r.lawful.placed_size r.chosen)
        (fresh_spot x one high) in (
          unused.0,
          not_true (is_fixed work.space.block_count (spot work.answers x))
              (λ e. never_both (is_marked_in work.space (spot work.answers x))
              (r.lawful.fixed (spot work.answers x) unused.0 e) (fresh_free x one high).1),
        )
  ]

  pub low_spot : (x : CellSeen) → Contains work.cells x → spot work.answers x < 2 ^ 63
  low_spot x one = elim (cases_lt x.id (2 ^ 63)) [
    | inl low ↦ subst (λ (j : ℕ). j < 2 ^ 63) (sym (old_spot x one low)) low
    | inr high ↦ (fresh_free x one high).0
  ]

  -- a cell that stands under its own name is marked, and a fresh block is not
  pub same_spot : (x y : CellSeen) → Contains work.cells x → Contains work.cells y
      → spot work.answers x ≡ spot work.answers y → x.id ≡ y.id
  same_spot x y in_x in_y same = elim (cases_lt x.id (2 ^ 63)) [
    | inl low_x ↦ elim (cases_lt y.id (2 ^ 63)) [
      | inl low_y ↦ sym (old_spot x in_x low_x) ∙ same ∙ old_spot y in_y low_y
      | inr high_y ↦ absurd (mixed x y in_x in_y low_x high_y same)
    ]
    | inr high_x ↦ elim (cases_lt y.id (2 ^ 63)) [
      | inl low_y ↦ absurd (mixed y x in_y in_x low_y high_x (sym same))
      | inr high_y ↦
          let (a, some_a) = fresh_given 22 work.space work.cells work.answers x r.chosen in_x high_x in
          let (b, some_b) = fresh_given 22 work.space work.cells work.answers y r.chosen in_y high_y in
          one_name work.answers x.id y.id a b (fresh_different 22 work.space work.cells work.answers
          r.lawful.placed_size r.chosen) some_a some_b
          (sym (ap (λ (o : Option BlockNo). spot_of o x.id) some_a) ∙ same
          ∙ ap (λ (o : Option BlockNo). spot_of o y.id) some_b)
    ]
  ]
    where
      mixed : (x y : CellSeen) → Contains work.cells x → Contains work.cells y → x.id < 2 ^ 63 → 2 ^ 63 ≤ y.id
          → spot work.answers x ≡ spot work.answers y → ⊥
      mixed x y in_x in_y low high same =
          let (d, is) = r.old x in_x low in
          let marked = (cell_marked x.id d is).0 in
          never_both (is_marked_in work.space x.id) marked (subst (λ (j : ℕ). is_marked_in work.space j ≡ false)
          (sym same ∙ old_spot x in_x low) (fresh_free y in_y high).1)

  -- a name that is a block of another cell is that cell's own
  pub name_spot : (x y : CellSeen) → Contains work.cells x → Contains work.cells y → x.id ≡ spot work.answers y
      → x.id ≡ y.id
  name_spot x y in_x in_y is = let low : x.id < 2 ^ 63 = subst (λ (j : ℕ). j < 2 ^ 63) (sym is) (low_spot y in_y) in
      same_spot x y in_x in_y (old_spot x in_x low ∙ is)

  -- where each owned block is one of a committed cell, nobody owns one that was chosen
  pub unowned_from : (owner : ℕ → Option ℕ) → ((i k : ℕ) → owner i ≡ Some k → i < 2 ^ 63 → (d : Node Value)
      × (r.content.store i ≡ Some d)) → (x : CellSeen) → Contains work.cells x → 2 ^ 63 ≤ x.id
      → owner (spot work.answers x) ≡ None
  unowned_from owner stood x one high = go (owner (spot work.answers x)) refl
    where
      go : (o : Option ℕ) → owner (spot work.answers x) ≡ o → owner (spot work.answers x) ≡ None
      go None e = e
      go (Some k) e =
          let (low, free) = fresh_free x one high in
          let (d, is) = stood (spot work.answers x) k e low in
          absurd (never_both (is_marked_in work.space (spot work.answers x))
          (cell_marked (spot work.answers x) d is).0 free)

  -- the pairs have nothing in common
  apart_in : (xs : List CellSeen) → ((x : CellSeen) → Contains xs x → Contains work.cells x)
      → AreDifferent (map (λ (x : CellSeen). x.id) xs) → AllApart (moves work.answers xs)
  apart_in [] within names = tt
  apart_in (x ∷ xs) within names = (
    λ q one.
        let (y, in_y, is) = from_pairs work.answers xs q one in
        let in_x : Contains work.cells x = within x (any_here x xs x refl) in
        let there : Contains work.cells y = within y (any_later x xs y in_y) in
        let other : x.id ≢ y.id = λ same. names.0 (subst (Contains (map (λ (z : CellSeen). z.id) xs)) (sym same)
        (in_map (λ (z : CellSeen). z.id) xs y in_y)) in
        let first : q.0 ≡ y.id = ap (λ (p : ℕ × ℕ). p.0) is in
        let second : q.1 ≡ spot work.answers y = ap (λ (p : ℕ × ℕ). p.1) is in (
          λ e. other (sym e ∙ first),
          λ e. other (sym (name_spot y x there in_x (sym first ∙ e))),
          λ e. other (name_spot x y in_x there (sym e ∙ second)),
          λ e. other (same_spot x y in_x there (sym e ∙ second)),
        ),
    apart_in xs (λ y one. within y (any_later x xs y one)) names.1,
  )

  pub apart : AllApart (moves work.answers work.cells)
  apart = apart_in work.cells (λ x one. one) r.names

  pub renamed_twice : (i : ℕ) → name_after work (name_after work i) ≡ i
  renamed_twice i = swap_twice (moves work.answers work.cells) i apart

  pub renamed_cell : (x : CellSeen) → Contains work.cells x → name_after work x.id ≡ spot work.answers x
  renamed_cell x one = swap_to (moves work.answers work.cells) (x.id, spot work.answers x) apart
      (in_map (λ (y : CellSeen). (y.id, spot work.answers y)) work.cells x one)

  -- a committed cell that is none of the atom's keeps its name
  pub renamed_not : (i : ℕ) (d : Node Value) → r.content.store i ≡ Some d
      → ((x : CellSeen) → Contains work.cells x → x.id ≡ i → ⊥) → name_after work i ≡ i
  renamed_not i d is out = swap_stays (moves work.answers work.cells) i (λ q one.
      let (y, in_y, at) = from_pairs work.answers work.cells q one in
      let first : q.0 ≡ y.id = ap (λ (p : ℕ × ℕ). p.0) at in
      let second : q.1 ≡ spot work.answers y = ap (λ (p : ℕ × ℕ). p.1) at in
      (λ e. out y in_y (sym first ∙ sym e), λ e. off_block y in_y (e ∙ second)))
    where
      off_block : (y : CellSeen) → Contains work.cells y → i ≡ spot work.answers y → ⊥
      off_block y in_y e = ⊎_elim
          (λ low. out y in_y (sym (old_spot y in_y low) ∙ sym e))
          (λ high. never_both (is_marked_in work.space i) (cell_marked i d is).0
          (subst (λ (j : ℕ). is_marked_in work.space j ≡ false) (sym e) (fresh_free y in_y high).1))
          (below_or y.id)

  pub is_commit : (p : LogPlan) → HasPlan (commit_of work p) → IsCommitOn n (commit_of work p)
  is_commit p plan = record { is_for = plan; plannable = plannable }
