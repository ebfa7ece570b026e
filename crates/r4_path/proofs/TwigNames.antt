-- The numbers of the cells of a change, level by level.
use Rattle.std.proofs.Common.{◌≡◌, ◌⊎◌, inl, inr, ℕ, ◌<◌, ◌≤◌, List, [], ◌∷◌, drop, refl, sym, ap, subst, ◌∙◌, arith}
use Rattle.std.specs.Prelude.{Contains, Option, None, Some}
use Rattle.std.proofs.lemmas.List.Elements.{Contains-append_cases, Contains-append_left, Contains-append_right}
use Rattle.std.proofs.lemmas.Option.{none-some}
use Rattle.r4_base.specs.Tree.{Root, Store}
use Rattle.r4_base.specs.Value.{Value}
use Rattle.r4_patch.specs.r4_cell.Seen.{CellSeen, node_of}
use Rattle.r4_patch.specs.Joining.{ids_of}
use Rattle.r4_patch.specs.Part.{IsPart}
use Rattle.r4_path.specs.Steps.{Ascends, Climbs, Step, fresh_ids, news, olds}
use Rattle.r4_patch.proofs.Members.{Distinct, cases, distinct_append, here, none}
use Rattle.r4_path.proofs.OnPath.{Stands, distinct_olds, old_below, stands_in, stands_old, up_one}
use Rattle.r4_path.proofs.Rising.{id_member}
use Rattle.r4_path.proofs.Ordered.{Once, once_apart, once_distinct, once_left, once_right}

-- the first new cell has the name of the old one
abbrev pub IsFirst : Step → Type 0
IsFirst s = ids_of s.new ≡ s.old.id ∷ ids_of (drop 1 s.new)

abbrev pub AreFirst : List Step → Type 0
AreFirst [] = Unit {0}
AreFirst (s ∷ steps) = IsFirst s × AreFirst steps

pub climbs_first : (below : Option Step) (steps : List Step) → Climbs below steps → AreFirst steps
climbs_first below [] climbs = tt
climbs_first below (s ∷ steps) (step, rest) = (step.first, climbs_first (Some s) steps rest)

step_id : (s : Step) (x : CellSeen) → IsFirst s → Contains s.new x → (x.id ≡ s.old.id) ⊎ Contains (ids_of (drop 1 s.new)) x.id
step_id s x first member = cases s.old.id x.id (ids_of (drop 1 s.new))
    (subst (λ ids. Contains ids x.id) first (id_member s.new x member))

-- a new cell has the name of an old one of the steps, or a new name
pub id_from : (below : Option Step) (steps : List Step) (over : Option CellSeen) (x : CellSeen) → AreFirst steps
    → Contains (news steps over) x
    → ((b : Option Step) × (s : Step) × Stands below steps b s × (x.id ≡ s.old.id)) ⊎ Contains (fresh_ids steps over) x.id
id_from below [] None x firsts at = absurd (none x at)
id_from below [] (Some c) x firsts at = elim (cases c x [] at) [
  | inl is ↦ inr (subst (λ (z : CellSeen). Contains (c.id ∷ []) z.id) (sym is) (here c.id []))
  | inr more ↦ absurd (none x more)
]
id_from below (u ∷ us) over x (first, rest) at = elim (Contains-append_cases u.new (news us over) x at) [
  | inl member ↦ elim (step_id u x first member) [
    | inl is ↦ inl (below, u, inl (refl, refl), is)
    | inr more ↦ inr (Contains-append_left (ids_of (drop 1 u.new)) (fresh_ids us over) x.id more)
  ]
  | inr more ↦ elim (id_from (Some u) us over x rest more) [
    | inl h ↦ let (b, s, st, is) = h in inl (b, s, inr st, is)
    | inr is ↦ inr (Contains-append_right (ids_of (drop 1 u.new)) (fresh_ids us over) x.id is)
  ]
]

-- no step but the lowest has none below
pub has_below : (u : Step) (steps : List Step) (s : Step) → Stands (Some u) steps None s → ⊥
has_below u [] s h = h
has_below u (v ∷ vs) s (inl (eb, es)) = none-some u eb
has_below u (v ∷ vs) s (inr h) = has_below v vs s h

module _ (t : Store Value) (r : Root) (part : IsPart t r) where
  -- a step is higher than the one below all
  pub higher : (u : Step) (steps : List Step) (b : Option Step) (s : Step) → 1 ≤ u.old.level
      → Ascends t (Some u.old) (olds steps) → Stands (Some u) steps b s → u.old.level < s.old.level
  higher u [] b s low path h = absurd h
  higher u (v ∷ vs) b s low (at, level, leads, rest) (inl (eb, es)) =
      let up = up_one t r part u v (record { there = at; level = level; leads = leads }) low in
      let same = ap (λ (w : Step). w.old.level) es in
      omega (arith, up, same)
  higher u (v ∷ vs) b s low (at, level, leads, rest) (inr h) =
      let up = up_one t r part u v (record { there = at; level = level; leads = leads }) low in
      let more = higher v vs b s level rest h in
      omega (arith, up, more)

  -- no two new cells of the steps have one name
  pub distinct_new : (below : Option Step) (steps : List Step) (over : Option CellSeen)
      → Ascends t (old_below below) (olds steps) → AreFirst steps → Once (fresh_ids steps over)
      → ((i : ℕ) → Contains (fresh_ids steps over) i → t i ≡ None) → Distinct (news steps over)
  distinct_new below [] None path firsts numbers free = tt
  distinct_new below [] (Some c) path firsts numbers free = (λ y member. absurd (none y member), tt)
  distinct_new below (u ∷ us) over path firsts numbers free =
      let (at, level, leads, rest) = path in
      let (first, more) = firsts in
      let mine = ids_of (drop 1 u.new) in
      let others = fresh_ids us over in
      let free_here : (i : ℕ) → Contains mine i → t i ≡ None = λ i is. free i (Contains-append_left mine others i is) in
      let free_more : (i : ℕ) → Contains others i → t i ≡ None = λ i is. free i (Contains-append_right mine others i is) in
      let mine_once : Once (u.old.id ∷ mine) = (
        λ is. none-some (node_of u.old) (sym (free_here u.old.id is) ∙ at),
        once_left mine others numbers,
      ) in
      distinct_append u.new (news us over)
      (once_distinct u.new (subst Once (sym first) mine_once))
      (distinct_new (Some u) us over rest more (once_right mine others numbers) free_more)
      (λ x y in_x in_y same. elim (step_id u x first in_x) [
        | inl ex ↦ elim (id_from (Some u) us over y more in_y) [
          | inl h ↦
              let (b, s, st, ey) = h in
              (distinct_olds t r part below (u ∷ us) path).0 s.old (stands_old (Some u) us b s st) (sym ex ∙ (same ∙ ey))
          | inr h ↦ none-some (node_of u.old) (sym (free_more y.id h) ∙ subst (λ i. t i ≡ Some (node_of u.old))
              (sym ex ∙ same) at)
        ]
        | inr fx ↦ elim (id_from (Some u) us over y more in_y) [
          | inl h ↦
              let (b, s, st, ey) = h in
              none-some (node_of s.old) (sym (free_here x.id fx) ∙ subst (λ i. t i ≡ Some (node_of s.old)) (sym (same ∙ ey))
              (stands_in t (Some u) us b s rest st).there)
          | inr h ↦ once_apart mine others y.id numbers (subst (Contains mine) same fx) h
        ]
      ])
