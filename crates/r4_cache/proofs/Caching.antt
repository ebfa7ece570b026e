-- Cells under their names.
use Rattle.std.proofs.Common.{◌≡◌, inl, inr, ℕ, zero, suc, ◌+◌, ◌-◌, ◌<◌, ◌≤◌, true, cond, eqb, List, [], ◌∷◌, map, length, take, Option, None, Some, refl, sym, ◌∙◌, ap, subst, arith}
use Rattle.std.specs.Arc.{arc_value}
use Rattle.std.specs.declared.sync.Arc.{Arc}
use Rattle.std.specs.declared.alloc.Global.{Global}
use Rattle.std.specs.List.{IsDistinct}
use Rattle.std.specs.Option.{option_map, option_map_or}
use Rattle.std.specs.Map.{keys_of, lookup, lookup_entry, remove_entry}
use Rattle.std.proofs.lemmas.Bool.{cases_Bool, eqb-true}
use Rattle.std.proofs.lemmas.List.{take_all, take-map}
use Rattle.lru.specs.LruCache.{LruCache, IsValid, promoted, put_entries}
use Rattle.r4_cell.specs.Seen.{CellSeen}
use Rattle.r4_cache.specs.Cached.{Entry, cells_of, IsNamed, IsLawful, cell_named, without, front_or_all, in_front, put_in}

-- ---- look-ups

pub found : (id : ℕ) (es : List Entry) → IsNamed es → option_map (λ (a : Arc CellSeen Global). arc_value a) (lookup (eqb id) es) ≡ cell_named id (cells_of es)
found id [] n = refl
found id (e ∷ es) n =
    subst (λ (k : ℕ). option_map (λ (a : Arc CellSeen Global). arc_value a) (cond (eqb id k) (Some e.1) (lookup (eqb id) es)) ≡ cell_named id (cells_of (e ∷ es))) (sym n.0)
    (elim (cases_Bool (eqb id (arc_value e.1).id)) [
      | inl here ↦ rw here refl
      | inr on ↦ rw on (found id es n.1)
    ])

found_entry : (id : ℕ) (es : List Entry) → IsNamed es → option_map (λ (e : Entry). arc_value e.1) (lookup_entry (eqb id) es) ≡ cell_named id (cells_of es)
found_entry id [] n = refl
found_entry id (e ∷ es) n =
    subst (λ (k : ℕ). option_map (λ (f : Entry). arc_value f.1) (cond (eqb id k) (Some e) (lookup_entry (eqb id) es)) ≡ cell_named id (cells_of (e ∷ es))) (sym n.0)
    (elim (cases_Bool (eqb id (arc_value e.1).id)) [
      | inl here ↦ rw here refl
      | inr on ↦ rw on (found_entry id es n.1)
    ])

pub removed : (id : ℕ) (es : List Entry) → IsNamed es → cells_of (remove_entry (eqb id) es) ≡ without id (cells_of es)
removed id [] n = refl
removed id (e ∷ es) n =
    subst (λ (k : ℕ). cells_of (cond (eqb id k) es (e ∷ remove_entry (eqb id) es)) ≡ without id (cells_of (e ∷ es))) (sym n.0)
    (elim (cases_Bool (eqb id (arc_value e.1).id)) [
      | inl here ↦ rw here refl
      | inr on ↦ rw on (ap (λ (cs : List CellSeen). arc_value e.1 ∷ cs) (removed id es n.1))
    ])

pub named_removed : (id : ℕ) (es : List Entry) → IsNamed es → IsNamed (remove_entry (eqb id) es)
named_removed id [] n = tt
named_removed id (e ∷ es) n = elim (cases_Bool (eqb id e.0)) [
  | inl here ↦ rw here n.1
  | inr on ↦ rw on (n.0, named_removed id es n.1)
]

-- what is found, if something is, stands under its name, which is the one that was looked for
abbrev IsFound : ℕ → Option Entry → Type 0
IsFound id None = Unit {0}
IsFound id (Some e) = (e.0 ≡ (arc_value e.1).id) × (id ≡ e.0)

named_found : (id : ℕ) (es : List Entry) → IsNamed es → IsFound id (lookup_entry (eqb id) es)
named_found id [] n = tt
named_found id (e ∷ es) n = elim (cases_Bool (eqb id e.0)) [
  | inl here ↦ rw here (n.0, eqb-true id e.0 here)
  | inr on ↦ rw on (named_found id es n.1)
]

-- ---- the one that is used goes first

fronted : (o : Option Entry) (rest es : List Entry) → cells_of (option_map_or (λ (e : Entry). e ∷ rest) o es) ≡ front_or_all (option_map (λ (e : Entry). arc_value e.1) o) (cells_of rest) (cells_of es)
fronted None rest es = refl
fronted (Some e) rest es = refl

pub front : (id : ℕ) (es : List Entry) → IsNamed es → cells_of (promoted (eqb id) es) ≡ in_front id (cells_of es)
front id es n =
    fronted (lookup_entry (eqb id) es) (remove_entry (eqb id) es) es
    ∙ ap (λ (o : Option CellSeen). front_or_all o (cells_of (remove_entry (eqb id) es)) (cells_of es)) (found_entry id es n)
    ∙ ap (λ (cs : List CellSeen). front_or_all (cell_named id (cells_of es)) cs (cells_of es)) (removed id es n)

named_fronted : (id : ℕ) (o : Option Entry) (rest es : List Entry) → IsFound id o → IsNamed rest → IsNamed es → IsNamed (option_map_or (λ (e : Entry). e ∷ rest) o es)
named_fronted id None rest es f r n = n
named_fronted id (Some e) rest es f r n = (f.0, r)

pub named_front : (id : ℕ) (es : List Entry) → IsNamed es → IsNamed (promoted (eqb id) es)
named_front id es n = named_fronted id (lookup_entry (eqb id) es) (remove_entry (eqb id) es) es (named_found id es n) (named_removed id es n) n

-- a cell is found where it was
find_named : (id : ℕ) (cs : List CellSeen) (c : CellSeen) → cell_named id cs ≡ Some c → eqb id c.id ≡ true
find_named id [] c is = absurd (cc (is))
find_named id (d ∷ cs) c is = elim (cases_Bool (eqb id d.id)) [
  | inl here ↦ let at_head : Some d ≡ Some c = sym (rw here refl) ∙ is in let same : d ≡ c = cc (at_head) in subst (λ (x : CellSeen). eqb id x.id ≡ true) same here
  | inr on ↦ find_named id cs c (sym (rw on refl) ∙ is)
]

find_fronted : (id : ℕ) (o : Option CellSeen) (rest all : List CellSeen) → ((c : CellSeen) → o ≡ Some c → eqb id c.id ≡ true) → cell_named id all ≡ o → cell_named id (front_or_all o rest all) ≡ o
find_fronted id None rest all has is = is
find_fronted id (Some c) rest all has is = rw (has c refl) refl

pub still_found : (id : ℕ) (cs : List CellSeen) → cell_named id (in_front id cs) ≡ cell_named id cs
still_found id cs = find_fronted id (cell_named id cs) (without id cs) cs (find_named id cs) refl

-- ---- one that is put in

shorter : (id : ℕ) (es : List Entry) (e : Entry) → lookup_entry (eqb id) es ≡ Some e → length (remove_entry (eqb id) es) + 1 ≡ length es
shorter id [] e is = absurd (cc (is))
shorter id (f ∷ es) e is = elim (cases_Bool (eqb id f.0)) [
  | inl here ↦ rw here (omega arith)
  | inr on ↦ rw on (let more = shorter id es e (sym (rw on refl) ∙ is) in omega (arith, more))
]

absent : (id : ℕ) (es : List Entry) → lookup_entry (eqb id) es ≡ None → remove_entry (eqb id) es ≡ es
absent id [] is = refl
absent id (f ∷ es) is = elim (cases_Bool (eqb id f.0)) [
  | inl here ↦ let some : Some f ≡ None = sym (rw here refl) ∙ is in absurd (cc (some))
  | inr on ↦ rw on (ap (λ (l : List Entry). f ∷ l) (absent id es (sym (rw on refl) ∙ is)))
]

length-cells : (es : List Entry) → length (cells_of es) ≡ length es
length-cells [] = refl
length-cells (e ∷ es) = ap suc (length-cells es)

first_of_more : (cap : ℕ) (c : CellSeen) (cs : List CellSeen) → 0 < cap → take cap (c ∷ cs) ≡ c ∷ take (cap - 1) cs
first_of_more zero c cs some = absurd (omega (arith, some))
first_of_more (suc n) c cs some = let one : suc n - 1 ≡ n = omega arith in rw one refl

put_as : (cap id : ℕ) (a : Arc CellSeen Global) (es : List Entry) (o : Option Entry) → lookup_entry (eqb id) es ≡ o → IsNamed es → length es ≤ cap → 0 < cap
    → cells_of (option_map_or (λ (e : Entry). (e.0, a) ∷ remove_entry (eqb id) es) o ((id, a) ∷ take (cap - 1) es)) ≡ take cap (arc_value a ∷ without id (cells_of es))
put_as cap id a es None is n fits some =
    let rest : without id (cells_of es) ≡ cells_of es = sym (removed id es n) ∙ ap cells_of (absent id es is) in
    rw rest (ap (λ (cs : List CellSeen). arc_value a ∷ cs) (sym (take-map (λ (e : Entry). arc_value e.1) (cap - 1) es)) ∙ sym (first_of_more cap (arc_value a) (cells_of es) some))
put_as cap id a es (Some e) is n fits some =
    let rest : without id (cells_of es) ≡ cells_of (remove_entry (eqb id) es) = sym (removed id es n) in
    rw rest (sym (take_all cap (arc_value a ∷ cells_of (remove_entry (eqb id) es)) (omega (arith, shorter id es e is, length-cells (remove_entry (eqb id) es), fits))))

pub put : (c : LruCache ℕ (Arc CellSeen Global)) (a : Arc CellSeen Global) → IsNamed c.entries → length c.entries ≤ c.cap → 0 < c.cap → cells_of (put_entries eqb c (arc_value a).id a) ≡ put_in c.cap (arc_value a) (cells_of c.entries)
put c a n fits some = put_as c.cap (arc_value a).id a c.entries (lookup_entry (eqb (arc_value a).id) c.entries) refl n fits some

named_take : (k : ℕ) (es : List Entry) → IsNamed es → IsNamed (take k es)
named_take zero es n = tt
named_take (suc k) [] n = tt
named_take (suc k) (e ∷ es) n = (n.0, named_take k es n.1)

named_put_as : (cap id : ℕ) (a : Arc CellSeen Global) (rest es : List Entry) (o : Option Entry) → IsFound id o → (arc_value a).id ≡ id → IsNamed rest → IsNamed es → IsNamed (option_map_or (λ (e : Entry). (e.0, a) ∷ rest) o ((id, a) ∷ take (cap - 1) es))
named_put_as cap id a rest es None f same r n = (sym same, named_take (cap - 1) es n)
named_put_as cap id a rest es (Some e) f same r n = (sym f.1 ∙ sym same, r)

pub named_put : (c : LruCache ℕ (Arc CellSeen Global)) (a : Arc CellSeen Global) → IsNamed c.entries → IsNamed (put_entries eqb c (arc_value a).id a)
named_put c a n =
    let id = (arc_value a).id in
    named_put_as c.cap id a (remove_entry (eqb id) c.entries) c.entries (lookup_entry (eqb id) c.entries) (named_found id c.entries n) refl (named_removed id c.entries n) n

-- ---- the names differ

names_are : (es : List Entry) → IsNamed es → keys_of es ≡ map (λ (c : CellSeen). c.id) (cells_of es)
names_are [] n = refl
names_are (e ∷ es) n = λ i. n.0 i ∷ names_are es n.1 i

pub lawful : (c : LruCache ℕ (Arc CellSeen Global)) → IsNamed c.entries → IsValid eqb c → IsLawful (record { entries = cells_of c.entries; cap = c.cap })
lawful c n valid = record {
  names = subst (IsDistinct eqb) (names_are c.entries n) valid.0;
  fits = omega (arith, length-cells c.entries, valid.1);
  room = valid.2;
}
