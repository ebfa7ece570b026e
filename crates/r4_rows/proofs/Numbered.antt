-- Rows whose new cells have old numbers and then the next ones.
use Rattle.std.proofs.Common.{◌≡◌, ◌⊎◌, inl, inr, ℕ, zero, suc, ◌+◌, ◌<◌, ◌≤◌, List, [], ◌∷◌, ◌++◌, length, take}
use Rattle.std.proofs.Common.{refl, sym, ap, subst, ◌∙◌, arith}
use Rattle.std.specs.Prelude.{Contains, Option, None, Some}
use Rattle.std.proofs.lemmas.List.Elements.{Contains-append_cases, Contains-append_left, Contains-append_right}
use Rattle.std.proofs.lemmas.Option.{none-some}
use Rattle.r4_base.specs.Tree.{Store}
use Rattle.r4_base.specs.Value.{Value}
use Rattle.r4_cell.specs.Patch.{HaveNames}
use Rattle.r4_cell.specs.Seen.{CellSeen, node_of}
use Rattle.r4_patch.specs.Joining.{ids_of}
use Rattle.r4_path.specs.Steps.{CountUp, IsFree}
use Rattle.r4_path.specs.Twigs.{IsUnused}
use Rattle.r4_patch.proofs.Members.{Distinct, cases, distinct_append, have_names, later, none}
use Rattle.r4_path.proofs.Ordered.{Once}
use Rattle.r4_path.proofs.Rising.{count_within, id_member}
use Rattle.r4_rows.specs.Rows.{AreThere, Row, news_in, olds_in}
use Rattle.r4_rows.specs.Numbers.{AreNumbered}
use Rattle.r4_path.proofs.TwigBelow.{id_cell}
use Rattle.r4_rows.proofs.Lists.{distinct_apart, distinct_left, distinct_right, in_take}

order : (n to : ℕ) (rows : List Row) (over : Option CellSeen) → AreNumbered n to rows over → n ≤ to
order n to [] None h = h
order n to [] (Some c) (is, lt) = omega (arith, lt)
order n to (s ∷ rows) over (xs, ids, counts, rest) = let le = order (n + length xs) to rows over rest in
    omega (arith, le)

-- an old number, or one between
pub where_from : (n to : ℕ) (rows : List Row) (over : Option CellSeen) (x : CellSeen) → AreNumbered n to rows over
    → Contains (news_in rows over) x → Contains (ids_of (olds_in rows)) x.id ⊎ ((n ≤ x.id) × (x.id < to))
where_from n to [] None x h at = absurd (none x at)
where_from n to [] (Some c) x (is, lt) at = elim (cases c x [] at) [
  | inl e ↦ let same = ap (λ (z : CellSeen). z.id) e in inr (omega (arith, same, is), omega (arith, same, is, lt))
  | inr more ↦ absurd (none x more)
]
where_from n to (s ∷ rows) over x (xs, ids, counts, rest) at =
    elim (Contains-append_cases s.new (news_in rows over) x at) [
      | inl mine ↦ elim (Contains-append_cases (take (length s.new) (ids_of s.old)) xs x.id
          (subst (λ (is : List ℕ). Contains is x.id) ids (id_member s.new x mine))) [
            | inl old ↦
                let (o, mo, e) = id_cell s.old x.id (in_take (length s.new) (ids_of s.old) x.id old) in
                inl (subst (Contains (ids_of (s.old ++ olds_in rows))) e
                (id_member (s.old ++ olds_in rows) o (Contains-append_left s.old (olds_in rows) o mo)))
            | inr new ↦
                let w = count_within n xs x.id counts new in
                let le = order (n + length xs) to rows over rest in
                inr (omega (arith, w), omega (arith, w, le))
          ]
      | inr more ↦ elim (where_from (n + length xs) to rows over x rest more) [
        | inl old ↦
            let (o, mo, e) = id_cell (olds_in rows) x.id old in
            inl (subst (Contains (ids_of (s.old ++ olds_in rows))) e
            (id_member (s.old ++ olds_in rows) o (Contains-append_right s.old (olds_in rows) o mo)))
        | inr new ↦ inr (omega (arith, new), omega (arith, new))
      ]
    ]

-- ---- numbers, none twice

once_ids : (cells : List CellSeen) → Distinct cells → Once (ids_of cells)
once_ids [] d = tt
once_ids (c ∷ cells) (first, rest) = (
  λ at. let (o, mo, e) = id_cell cells c.id at in first o mo (sym e),
  once_ids cells rest,
)

once_take : (k : ℕ) (ids : List ℕ) → Once ids → Once (take k ids)
once_take zero ids h = tt
once_take (suc k) [] h = tt
once_take (suc k) (i ∷ ids) (first, rest) = (λ at. first (in_take k ids i at), once_take k ids rest)

once_count : (n : ℕ) (ids : List ℕ) → CountUp n ids → Once ids
once_count n [] h = tt
once_count n (i ∷ ids) (is, rest) = (
  λ at. let w = count_within (n + 1) ids i rest at in omega (arith, w, is),
  once_count (n + 1) ids rest,
)

once_append : (xs ys : List ℕ) → Once xs → Once ys → ((i : ℕ) → Contains xs i → Contains ys i → ⊥) → Once (xs ++ ys)
once_append [] ys hx hy apart = hy
once_append (x ∷ xs) ys (first, rest) hy apart = (
  λ at. elim (Contains-append_cases xs ys x at) [
    | inl mine ↦ first mine
    | inr other ↦ apart x (zero, omega arith, refl) other
  ],
  once_append xs ys rest hy (λ i a b. apart i (later x i xs a) b),
)

distinct_of : (cells : List CellSeen) (ids : List ℕ) → ids_of cells ≡ ids → Once ids → Distinct cells
distinct_of [] ids e h = tt
distinct_of (c ∷ cells) [] e h = absurd cc
distinct_of (c ∷ cells) (i ∷ ids) e (first, rest) =
    let head : c.id ≡ i = cc in
    let tail : ids_of cells ≡ ids = cc in (
      λ y at same. first (subst (λ is. Contains is i) tail
          (subst (Contains (ids_of cells)) (sym same ∙ head) (id_member cells y at))),
      distinct_of cells ids tail rest,
    )

module _ (t : Store Value) where
  pub not_free : (n to i : ℕ) (o : CellSeen) → IsFree n to t → t o.id ≡ Some (node_of o) → o.id ≡ i → n ≤ i → i < to → ⊥
  not_free n to i o free there same low high = none-some (node_of o)
      (sym (free.cells i low high) ∙ subst (λ j. t j ≡ Some (node_of o)) same there)

  pub numbered_distinct : (n to : ℕ) (rows : List Row) (over : Option CellSeen) → AreNumbered n to rows over
      → Distinct (olds_in rows)
      → AreThere t (olds_in rows) → IsFree n to t → Distinct (news_in rows over)
  numbered_distinct n to [] None h d there free = tt
  numbered_distinct n to [] (Some c) h d there free = (λ y at. absurd (none y at), tt)
  numbered_distinct n to (s ∷ rows) over (xs, ids, counts, rest) d there free =
      let le = order (n + length xs) to rows over rest in
      let mine : Distinct s.new = distinct_of s.new (take (length s.new) (ids_of s.old) ++ xs) ids
      (once_append (take (length s.new) (ids_of s.old)) xs
      (once_take (length s.new) (ids_of s.old) (once_ids s.old (distinct_left s.old (olds_in rows) d)))
      (once_count n xs counts)
      (λ i a b.
      let (o, mo, e) = id_cell s.old i (in_take (length s.new) (ids_of s.old) i a) in
      let w = count_within n xs i counts b in
      not_free n to i o free (there o (Contains-append_left s.old (olds_in rows) o mo)) e (omega (arith, w))
      (omega (arith, w, le)))) in
      let others = numbered_distinct (n + length xs) to rows over rest (distinct_right s.old (olds_in rows) d)
      (λ c at. there c (Contains-append_right s.old (olds_in rows) c at))
      (record {
        cells = λ i low high. free.cells i (omega (arith, low)) high;
        names =
            λ i low high. free.names i (omega (arith, low)) high;
      }) in
      distinct_append s.new (news_in rows over) mine others (λ x y mx my same.
      elim (Contains-append_cases (take (length s.new) (ids_of s.old)) xs x.id
      (subst (λ (is : List ℕ). Contains is x.id) ids (id_member s.new x mx))) [
        | inl old_x ↦
            let (o, mo, e) = id_cell s.old x.id (in_take (length s.new) (ids_of s.old) x.id old_x) in
            elim (where_from (n + length xs) to rows over y rest my) [
              | inl old_y ↦
                  let (q, mq, f) = id_cell (olds_in rows) y.id old_y in
                  distinct_apart s.old (olds_in rows) o q d mo mq (e ∙ (same ∙ sym f))
              | inr new_y ↦ not_free n to y.id o free (there o (Contains-append_left s.old (olds_in rows) o mo))
                  (e ∙ same)
                  (omega (arith, new_y)) (omega (arith, new_y))
            ]
        | inr new_x ↦
            let w = count_within n xs x.id counts new_x in
            elim (where_from (n + length xs) to rows over y rest my) [
              | inl old_y ↦
                  let (q, mq, f) = id_cell (olds_in rows) y.id old_y in
                  not_free n to x.id q free (there q (Contains-append_right s.old (olds_in rows) q mq)) (f ∙ sym same)
                  (omega (arith, w)) (omega (arith, w, le))
              | inr new_y ↦ omega (arith, w, new_y, same)
            ]
      ])

  pub numbered_each : (n to : ℕ) (rows : List Row) (over : Option CellSeen) → AreNumbered n to rows over → IsFree n to t
      → (c : CellSeen) → Contains (news_in rows over) c → Contains (ids_of (olds_in rows)) c.id ⊎ IsUnused t c.id
  numbered_each n to rows over h free c at = elim (where_from n to rows over c h at) [
    | inl old ↦ inl old
    | inr new ↦ inr (free.cells c.id new.0 new.1, free.names c.id new.0 new.1)
  ]

pub numbered_names : (t : Store Value) (n to : ℕ) (rows : List Row) (over : Option CellSeen)
    → AreNumbered n to rows over
    → Distinct (olds_in rows) → AreThere t (olds_in rows) → IsFree n to t → HaveNames (news_in rows over)
numbered_names t n to rows over h d there free =
    have_names (news_in rows over) (numbered_distinct t n to rows over h d there free)
