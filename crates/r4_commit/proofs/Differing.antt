-- Lists of different blocks.
use Rattle.std.proofs.Common.{◌≡◌, ⊎_elim, ℕ, List, [], ◌∷◌, ◌++◌, map, Option, Some, None, refl, sym, ap, ◌∙◌, subst}
use Rattle.std.specs.Prelude.{Contains}
use Rattle.std.proofs.lemmas.List.Elements.{Contains-append_cases, Contains-append_right}
use Rattle.r4_base.specs.Image.{AreDifferent}
use Rattle.r4_base.specs.declared.things.BlockNo.{BlockNo}
use Rattle.r4_base.proofs.Members.{member_cases, member_here, member_later, no_member}
use Rattle.r4_base.proofs.Choices.{nothing_in}
use Rattle.r4_place.specs.r4_cell.Seen.{CellSeen}
use Rattle.r4_place.specs.Chosen.{block_of, fresh_blocks}
use Rattle.r4_place.specs.declared.placed.Placed.{Placed}
use Rattle.r4_wander.specs.Seen.{Placed as PlacedCell}
use Rattle.r4_wander.proofs.Members.{any_cases, in_map}
use Rattle.r4_commit.specs.Places.{place_of, placed_at, kept_at, placed_cells, overwritten}
use Rattle.r4_commit.proofs.PlanFacts.{given_fresh, in_fresh, placed_from}

pub different-append : (xs ys : List ℕ) → AreDifferent xs → AreDifferent ys → ((b : ℕ) → Contains xs b → Contains ys b → ⊥) → AreDifferent (xs ++ ys)
different-append [] ys one two apart = two
different-append (x ∷ xs) ys one two apart =
    ((λ h. ⊎_elim one.0 (λ other. apart x (member_here x xs x refl) other) (Contains-append_cases xs ys x h)), different-append xs ys one.1 two (λ b h other. apart b (member_later x xs b h) other))

pub different_apart : (xs ys : List ℕ) (b : ℕ) → AreDifferent (xs ++ ys) → Contains xs b → Contains ys b → ⊥
different_apart [] ys b different one two = no_member b one
different_apart (x ∷ xs) ys b different one two = ⊎_elim
    (λ is. different.0 (Contains-append_right xs ys x (subst (Contains ys) is two)))
    (λ later. different_apart xs ys b different.1 later two)
    (member_cases x xs b one)

pub different_right : (xs ys : List ℕ) → AreDifferent (xs ++ ys) → AreDifferent ys
different_right [] ys different = different
different_right (x ∷ xs) ys different = different_right xs ys different.1

-- ---- the blocks that cells get

-- one block is given by one answer
one_answer : (ps : List Placed) (p q : Placed) (b : ℕ) → AreDifferent (fresh_blocks ps) → Contains ps p → Contains ps q → Contains (block_of p.how) b → Contains (block_of q.how) b → p ≡ q
one_answer [] p q b different one two mine his = absurd (nothing_in p one)
one_answer (r ∷ rs) p q b different one two mine his = ⊎_elim
    (λ is. ⊎_elim
    (λ also. is ∙ sym also)
    (λ later. absurd (different_apart (block_of r.how) (fresh_blocks rs) b different (subst (λ (x : Placed). Contains (block_of x.how) b) is mine) (in_fresh rs q b later his)))
    (any_cases r rs q two))
    (λ first. ⊎_elim
    (λ is. absurd (different_apart (block_of r.how) (fresh_blocks rs) b different (subst (λ (x : Placed). Contains (block_of x.how) b) is his) (in_fresh rs p b first mine)))
    (λ later. one_answer rs p q b (different_right (block_of r.how) (fresh_blocks rs) different) first later mine his)
    (any_cases r rs q two))
    (any_cases r rs p one)

one_name : (answers : List Placed) (x y : ℕ) (a b : BlockNo) → AreDifferent (fresh_blocks answers) → place_of answers x ≡ Some a → place_of answers y ≡ Some b → a.0 ≡ b.0 → x ≡ y
one_name answers x y a b different one two same =
    let mine = given_fresh answers x a one in
    let his = given_fresh answers y b two in
    let answer : mine.0 ≡ his.0 = one_answer answers mine.0 his.0 a.0 different mine.1 his.1 mine.3 (subst (Contains (block_of his.0.how)) (sym same) his.3) in
    sym mine.2 ∙ ap (λ (p : Placed). p.node.0) answer ∙ his.2

pub placed_different : (answers : List Placed) (cells : List CellSeen) → AreDifferent (fresh_blocks answers) → AreDifferent (map (λ (c : CellSeen). c.id) cells) → AreDifferent (map (λ (x : PlacedCell). x.at) (placed_cells (place_of answers) cells))
placed_different answers [] different names = tt
placed_different answers (c ∷ cs) different names = go (placed_different answers cs different names.1) (place_of answers c.id) refl
  where
    go : AreDifferent (map (λ (x : PlacedCell). x.at) (placed_cells (place_of answers) cs)) → (o : Option BlockNo) → place_of answers c.id ≡ o → AreDifferent (map (λ (x : PlacedCell). x.at) (placed_at c o ++ placed_cells (place_of answers) cs))
    go rest None none = rest
    go rest (Some a) some = (
      (λ again.
          let other = placed_from (place_of answers) cs a.0 again in
          let name : c.id ≡ other.0.id = one_name answers c.id other.0.id a other.2.0 different some other.2.1 other.2.2 in
          names.0 (subst (Contains (map (λ (x : CellSeen). x.id) cs)) (sym name) (in_map (λ (x : CellSeen). x.id) cs other.0 other.1))),
      rest,
    )

-- ---- the cells that keep their blocks

pub kept_cell : (place : ℕ → Option BlockNo) (cells : List CellSeen) (b : ℕ) → Contains (map (λ (x : CellSeen). x.id) (overwritten place cells)) b → Contains (map (λ (x : CellSeen). x.id) cells) b
kept_cell place [] b h = h
kept_cell place (c ∷ cs) b h = go (λ more. kept_cell place cs b more) (place c.id) h
  where
    go : (Contains (map (λ (x : CellSeen). x.id) (overwritten place cs)) b → Contains (map (λ (x : CellSeen). x.id) cs) b) → (o : Option BlockNo) → Contains (map (λ (x : CellSeen). x.id) (kept_at c o ++ overwritten place cs)) b → Contains (map (λ (x : CellSeen). x.id) (c ∷ cs)) b
    go ih (Some a) h = member_later c.id (map (λ (x : CellSeen). x.id) cs) b (ih h)
    go ih None h = ⊎_elim (λ is. member_here c.id (map (λ (x : CellSeen). x.id) cs) b is) (λ more. member_later c.id (map (λ (x : CellSeen). x.id) cs) b (ih more)) (member_cases c.id (map (λ (x : CellSeen). x.id) (overwritten place cs)) b h)

pub kept_different : (place : ℕ → Option BlockNo) (cells : List CellSeen) → AreDifferent (map (λ (c : CellSeen). c.id) cells) → AreDifferent (map (λ (x : CellSeen). x.id) (overwritten place cells))
kept_different place [] names = tt
kept_different place (c ∷ cs) names = go (kept_different place cs names.1) (place c.id)
  where
    go : AreDifferent (map (λ (x : CellSeen). x.id) (overwritten place cs)) → (o : Option BlockNo) → AreDifferent (map (λ (x : CellSeen). x.id) (kept_at c o ++ overwritten place cs))
    go rest (Some a) = rest
    go rest None = ((λ again. names.0 (kept_cell place cs c.id again)), rest)
