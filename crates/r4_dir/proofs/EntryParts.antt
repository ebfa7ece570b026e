-- The entries of a directory among what was seen.
use Rattle.std.proofs.Common.{◌≡◌, ◌<◌, ◌+◌, ℕ, suc, Bool, true, false, cond, List, [], ◌∷◌, ◌++◌, length, filter, refl, sym, ◌∙◌, ap, arith}
use Rattle.std.specs.Prelude.{nat_lt, ◌||◌}
use Rattle.std.specs.List.{flat_map, list_any}
use Rattle.std.proofs.lemmas.Bool.{lt-ltb}
use Rattle.std.proofs.lemmas.List.Concat.{flat_map-cons}
use Rattle.std.proofs.lemmas.List.Folds.{list_any-append}
use Rattle.r4_base.specs.Key.{rank}
use Rattle.r4_base.specs.Value.{Value, Stat, Entry, Byte}
use Rattle.r4_content.specs.Course.{Answer, Course}
use Rattle.r4_content.specs.Edited.{Pairs, is_between}
use Rattle.r4_content.specs.Entries.{entries_from, entries_to, if_empty, names_in}
use Rattle.r4_content.specs.Held.{part_pairs}
use Rattle.r4_content.specs.Objects.{byte_pairs}
use Rattle.r4_content.specs.Seen.{pairs_in}
use Rattle.r4_content.specs.declared.reply.Reply.TheVariants.{Notempty}
use Rattle.r4_content.specs.declared.seen.SeenPart.{SeenPart}
use Rattle.r4_content.specs.declared.seen.SeenPart.TheVariants.{One, Run}
use Rattle.r4_base.specs.declared.items.Target.{Target}
use Rattle.r4_base.specs.declared.values.Value.TheVariants.{Attr as HeldAttr, Entry as HeldEntry, Byte as HeldByte}
use Rattle.std.proofs.lemmas.List.Elements.{filter-append}
use Rattle.std.specs.Prelude.{Vec, Result, Ok, Err, IfOk}
use Rattle.std.specs.declared.alloc.Global.{Global}
use Rattle.r4_dir.specs.Entries.{has_name, names_among, part_names}

-- ---- the names of the entries

more_names : (es fs : Pairs) → names_in (es ++ fs) ≡ names_in es ++ names_in fs
more_names [] fs = refl
more_names ((k, Stat a) ∷ es) fs = more_names es fs
more_names ((k, Entry n t) ∷ es) fs = ap (λ (ns : List (List ℕ)). n ∷ ns) (more_names es fs)
more_names ((k, Byte x) ∷ es) fs = more_names es fs

bytes_have_none : (lo hi k : ℕ) (xs : List ℕ) → names_in (pairs_in (byte_pairs k xs) lo hi) ≡ []
bytes_have_none lo hi k [] = refl
bytes_have_none lo hi k (x ∷ xs) = by_test (is_between lo hi k) (bytes_have_none lo hi (k + 1) xs)
  where
    by_test : (b : Bool) → names_in (pairs_in (byte_pairs (k + 1) xs) lo hi) ≡ [] → names_in (cond b ((k, Byte x) ∷ pairs_in (byte_pairs (k + 1) xs) lo hi) (pairs_in (byte_pairs (k + 1) xs) lo hi)) ≡ []
    by_test true rest = rest
    by_test false rest = rest

one_name : (b : Bool) (k : ℕ) (n : List ℕ) (t : Target) → cond b (n ∷ []) [] ≡ names_in (cond b ((k, Entry n t) ∷ []) [])
one_name true k n t = refl
one_name false k n t = refl

no_name : (b : Bool) (k : ℕ) (v : Value) → names_in ((k, v) ∷ []) ≡ [] → [] ≡ names_in (cond b ((k, v) ∷ []) [])
no_name true k v none = sym none
no_name false k v none = refl

part_has : (dir : ℕ) (p : SeenPart) → part_names dir p ≡ names_in (pairs_in (part_pairs p) (entries_from dir) (entries_to dir))
part_has dir (One key (HeldAttr a)) = no_name (is_between (entries_from dir) (entries_to dir) (rank key)) (rank key) (Stat a) refl
part_has dir (One key (HeldEntry n t)) = one_name (is_between (entries_from dir) (entries_to dir) (rank key)) (rank key) n t
part_has dir (One key (HeldByte x)) = no_name (is_between (entries_from dir) (entries_to dir) (rank key)) (rank key) (Byte x) refl
part_has dir (Run r) = sym (bytes_have_none (entries_from dir) (entries_to dir) (rank r.from) r.bytes)

names_are : (dir : ℕ) (parts : List SeenPart) → names_among dir parts ≡ names_in (pairs_in (flat_map part_pairs parts) (entries_from dir) (entries_to dir))
names_are dir [] = refl
names_are dir (p ∷ parts) =
    ap (λ (ns : List (List ℕ)). ns ++ names_among dir parts) (part_has dir p)
    ∙ ap (λ (ns : List (List ℕ)). names_in (pairs_in (part_pairs p) (entries_from dir) (entries_to dir)) ++ ns) (names_are dir parts)
    ∙ sym (more_names (pairs_in (part_pairs p) (entries_from dir) (entries_to dir)) (pairs_in (flat_map part_pairs parts) (entries_from dir) (entries_to dir)))
    ∙ ap names_in (sym (ap (λ (es : Pairs). pairs_in es (entries_from dir) (entries_to dir)) (flat_map-cons part_pairs p parts) ∙ filter-append (λ (e : ℕ × Value). is_between (entries_from dir) (entries_to dir) e.0) (part_pairs p) (flat_map part_pairs parts)))

-- the course of a command that needs an empty directory
one_or_more : (next : Course) (ns ms : List (List ℕ)) (b : Bool) → if_empty next ms ≡ cond b (Answer Notempty) next
    → if_empty next (ns ++ ms) ≡ cond (nat_lt 0 (length ns) || b) (Answer Notempty) next
one_or_more next [] ms b rest = rest
one_or_more next (n ∷ ns) ms b rest = ap (λ (c : Bool). cond (c || b) (Answer Notempty) next) (sym (lt-ltb 0 (length (n ∷ ns)) (omega arith)))

empty_among : (dir : ℕ) (parts : List SeenPart) (next : Course)
    → if_empty next (names_among dir parts) ≡ cond (list_any (has_name dir) parts) (Answer Notempty) next
empty_among dir [] next = refl
empty_among dir (p ∷ parts) next =
    one_or_more next (part_names dir p) (names_among dir parts) (list_any (has_name dir) parts) (empty_among dir parts next)

pub empty_or_not : (dir : ℕ) (parts : List SeenPart) (b : Bool) → b ≡ list_any (has_name dir) parts → (next : Course)
    → if_empty next (names_in (pairs_in (flat_map part_pairs parts) (entries_from dir) (entries_to dir))) ≡ cond b (Answer Notempty) next
empty_or_not dir parts b is next =
    ap (if_empty next) (sym (names_are dir parts)) ∙ empty_among dir parts next ∙ ap (λ (a : Bool). cond a (Answer Notempty) next) (sym is)

pub names_found : {E : Type 0} (dir : ℕ) (parts seen : List SeenPart) (r : Result (Vec (List ℕ) Global) E) → parts ≡ seen → IfOk r (λ v. v.items ≡ names_among dir parts) → IfOk r (λ v. v.items ≡ names_in (pairs_in (flat_map part_pairs seen) (entries_from dir) (entries_to dir)))
names_found {E} dir parts seen (Ok v) same is = is ∙ ap (names_among dir) same ∙ names_are dir seen
names_found {E} dir parts seen (Err e) same is = tt
