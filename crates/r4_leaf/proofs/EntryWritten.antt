-- An entry that is written behind those of an item.
use Rattle.std.proofs.Common.{◌≡◌, ◌⊎◌, ℕ, ◌+◌, ◌≤◌, Bool, true, false, List, [], ◌∷◌, ◌++◌, length, inl, inr, refl, sym, ap, subst, ◌∙◌, arith}
use Rattle.std.specs.Prelude.{slice_get, Option, Some, None, ◌==◌, if◌then◌else◌}
use Rattle.std.specs.List.{insert}
use Rattle.std.specs.Option.{is_some}
use Rattle.std.proofs.lemmas.Bool.{cases_lt, eqb-true, ltb-false}
use Rattle.std.proofs.lemmas.List.{length-append}
use Rattle.std.proofs.lemmas.List.Edits.{insert_end}
use Rattle.std.proofs.lemmas.Option.{same_Some, slice_get_within}
use Rattle.r4_base.specs.Bytes.{number_at}
use Rattle.r4_base.specs.Dir.{Entry, dir_fault, entries_of, entry_at, entry_count}
use Rattle.r4_base.specs.Entries.{IsLawfulEntry, first_key}
use Rattle.r4_base.specs.Name.{dir_of_key, is_long_key, is_long_name, short_name_in}
use Rattle.r4_base.specs.Node.{Item}
use Rattle.r4_base.proofs.Dirs.{accepted, get-entries_of, length-entries_of}
use Rattle.r4_base.proofs.EntryLists.{first_is, long_key, same_entries}
use Rattle.r4_base.proofs.Names.{is_name, key_spells}
use Rattle.r4_base.proofs.Numbers.{AreBytes}
use Rattle.r4_cde.specs.Edits.{GoesBetween, given_entry, given_room, used_with}
use Rattle.r4_leaf.proofs.Opened.{nothing}
use Rattle.r4_leaf.specs.Filling.{HasEntry, Receives, entry_need, long_of}

-- ---- an entry as it is given

module _ (e : Entry) (lawful : IsLawfulEntry e) (bytes : AreBytes e.name) where
  pub form : is_long_key e.key ≡ is_some (long_of e.name)
  form = ap is_long_key (sym lawful.key) ∙ (long_key (dir_of_key e.key) e.name bytes ∙ by_test (is_long_name e.name))
    where
      by_test : (t : Bool) → t ≡ is_some (let o : Option (List ℕ) = if t then Some e.name else None in o)
      by_test true = refl
      by_test false = refl

  pub given : given_entry e.key e.target (long_of e.name) ≡ e
  given = by_test (is_long_name e.name) refl
    where
      by_test : (t : Bool) → t ≡ is_long_name e.name → given_entry e.key e.target (if t then Some e.name else None) ≡ e
      by_test true is = refl
      by_test false is =
          let short = ltb-false 23 (length e.name) (sym is) in
          let spells : short_name_in e.key ≡ e.name = ap short_name_in (sym lawful.key) ∙ key_spells (dir_of_key e.key) e.name bytes lawful.legal short in
          (λ i. record { key = e.key; target = e.target; name = spells i })

  pub used_is : (used : ℕ) → used_with used (long_of e.name) ≡ used + entry_need used e
  used_is used = by_test (is_long_name e.name) (used == 0) refl
    where
      by_test : (t z : Bool) → z ≡ (used == 0) → (if z then 2 else used) + 26 + given_room (if t then Some e.name else None) ≡ used + ((if z then 2 else 0) + (26 + (if t then 24 + (length e.name + 1) else 24)))
      by_test true true is = let none : used ≡ 0 = eqb-true used 0 (sym is) in omega (arith, none)
      by_test true false is = omega arith
      by_test false true is = let none : used ≡ 0 = eqb-true used 0 (sym is) in omega (arith, none)
      by_test false false is = omega arith

  pub need_small : (used : ℕ) → entry_need used e ≤ 308
  need_small used = let few = (is_name e.name lawful.legal).few in by_test (is_long_name e.name) (used == 0) few
    where
      by_test : (t z : Bool) → length e.name ≤ 255 → (if z then 2 else 0) + (26 + (if t then 24 + (length e.name + 1) else 24)) ≤ 308
      by_test true true few = omega (arith, few)
      by_test true false few = omega (arith, few)
      by_test false true few = omega arith
      by_test false false few = omega arith

-- ---- before it is written

pub no_count : entry_count [] ≡ 0
unfolding number_at
no_count = refl

module _ (it : Item) (used at : ℕ) (e : Entry) (r : Receives it used at e) where
  same : entries_of e.key it.body ≡ entries_of it.key it.body
  same = sym (same_entries it.key e.key it.body r.same)

  pub good_before : (length it.body ≡ 0) ⊎ (dir_fault (first_key e.key it.body) it.body ≡ None)
  good_before = elim (cases_lt 0 used) [
    | inl more ↦ inr (ap (λ k. dir_fault k it.body) (first_is it.key e.key it.body r.key (sym r.same) (r.good more)) ∙ r.good more)
    | inr past ↦ inl (let long = r.long in omega (arith, long, past))
  ]

  pub at_count : at ≡ entry_count it.body
  at_count = r.count ∙ length-entries_of it.key it.body

  pub goes_between : GoesBetween (entries_of e.key it.body) at e.key
  goes_between = record {
    above = λ k x next is. r.above k x next (subst (λ es. slice_get es k ≡ Some x) same is);
    below = λ y is. let w = slice_get_within (entries_of e.key it.body) at y is in let n = ap length same in let c = r.count in absurd (omega (arith, w, n, c));
  }

  -- ---- and afterwards

  module _ (new : List ℕ) (entries : entries_of e.key new ≡ insert (entries_of e.key it.body) at e) (lawful : dir_fault (first_key e.key new) new ≡ None) where
    all : entries_of e.key new ≡ entries_of it.key it.body ++ e ∷ []
    all = entries ∙ (ap (λ es. insert es at e) same ∙ (ap (λ k. insert (entries_of it.key it.body) k e) r.count ∙ insert_end (entries_of it.key it.body) e))

    first : slice_get (entries_of it.key it.body ++ e ∷ []) 0 ≡ Some (entry_at e.key new 0)
    first =
        let n = length-entries_of e.key new in
        let long = ap length all in
        let both = length-append (entries_of it.key it.body) (e ∷ []) in
        subst (λ es. slice_get es 0 ≡ Some (entry_at e.key new 0)) all (get-entries_of e.key new 0 (omega (arith, n, long, both)))

    head_of : (es : List Entry) (d : Entry) → slice_get (es ++ e ∷ []) 0 ≡ Some d → ((length es ≡ 0) × (e ≡ d)) ⊎ ((1 ≤ length es) × (slice_get es 0 ≡ Some d))
    head_of [] d is = inl (refl, same_Some e d is)
    head_of (x ∷ es) d is = inr (omega arith, is)

    first_new : first_key e.key new ≡ it.key
    unfolding entry_at
    first_new = from (head_of (entries_of it.key it.body) (entry_at e.key new 0) first)
      where
        from : ((length (entries_of it.key it.body) ≡ 0) × (e ≡ entry_at e.key new 0)) ⊎ ((1 ≤ length (entries_of it.key it.body)) × (slice_get (entries_of it.key it.body) 0 ≡ Some (entry_at e.key new 0))) → first_key e.key new ≡ it.key
        from (inl h) = elim (cases_lt 0 used) [
          | inl more ↦
              let some = (accepted it.key it.body (r.good more)).some in
              let n = length-entries_of it.key it.body in
              let none = h.0 in
              absurd (omega (arith, some, n, none))
          | inr past ↦ sym (ap (λ (x : Entry). x.key) h.1) ∙ sym (r.new (omega (arith, past)))
        ]
        from (inr h) = elim (cases_lt 0 used) [
          | inl more ↦
              let n = length-entries_of it.key it.body in
              let some = h.0 in
              let own = get-entries_of it.key it.body 0 (omega (arith, n, some)) in
              let is : entry_at it.key it.body 0 ≡ entry_at e.key new 0 = same_Some _ _ (sym own ∙ h.1) in
              sym (ap (λ (x : Entry). x.key) is) ∙ first_is it.key it.key it.body r.key refl (r.good more)
          | inr past ↦
              let n = length-entries_of it.key it.body in
              let some = h.0 in
              let long = r.long in
              let no_body : it.body ≡ [] = nothing it.body (omega (arith, long, past)) in
              let none : entry_count it.body ≡ 0 = ap entry_count no_body ∙ no_count in
              absurd (omega (arith, n, some, none))
        ]

    pub has_entry : length new ≡ length it.body + entry_need (length it.body) e → HasEntry it e new
    has_entry long = record {
      good = ap (λ k. dir_fault k new) (sym first_new) ∙ lawful;
      entries = same_entries it.key e.key new r.same ∙ all;
      long = long;
    }
