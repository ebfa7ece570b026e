-- Which cells are read and written, from what is held.
use Rattle.std.proofs.Common.{◌≡◌, ◌≢◌, ◌⊎◌, inl, inr, ℕ, zero, suc, ◌+◌, ◌-◌, ◌<◌, ◌≤◌, Bool, true, false, List, [], ◌∷◌, ◌++◌, length, map, take, refl, sym, ap, subst, ◌∙◌, arith}
use Rattle.std.specs.Prelude.{AllPairs, Contains, Option, Some, None, slice_get, slice_index_or, sum_by}
use Rattle.std.proofs.lemmas.List.{get_or_append_left, get_or_push, length-append, take_more}
use Rattle.std.proofs.lemmas.List.Elements.{Contains-append_left, Contains-push, Contains-push_cases}
use Rattle.std.proofs.lemmas.List.Quantifiers.{all_pairs_push}
use Rattle.std.proofs.lemmas.List.Sums.{sum_by-cons}
use Rattle.std.proofs.lemmas.Option.{same_Some}
use Rattle.r4_base.specs.Tree.{Name, Node, Root, Store}
use Rattle.r4_base.specs.Value.{Value}
use Rattle.r4_search.specs.r4_cell.Patch.{by_name}
use Rattle.r4_search.specs.r4_cell.Seen.{CellSeen, node_of}
use Rattle.r4_reach.proofs.r4_patch.Members.{found, here, later, none}
use Rattle.r4_reach.specs.Demand.{Demand, ask, heard}
use Rattle.r4_reach.specs.Leaves.{more_in, more_of}
use Rattle.r4_reach.specs.Needs.{Ask}
use Rattle.r4_reach.specs.Reach.{IsAsked, IsBeside, IsRead, IsReadAt, IsReached, IsRootAsking, IsWritten, IsWrittenAt}
use Rattle.r4_marking.specs.Marks.{AreAsks, AreBeside, AreChosen, AreMarks, AreMet, IsWrittenBy, KeepsOrder, AddsMark, StandsBeside, heard_by_id}
use Rattle.r4_marking.proofs.Asked.{heard_of, node_level, stands}
use Rattle.r4_marking.proofs.Children.{data_nameless, data_silent}
use Rattle.r4_marking.proofs.Held.{heard_same}

-- ---- cells that are chosen one after another

-- These of the cells have the property, in the order of the cells.
pub record Chosen (P : CellSeen → Type 0) (cells chosen : List CellSeen) : Type 0 where
  pub are : (c : CellSeen) → (Contains chosen c → Contains cells c × P c) × (Contains cells c × P c → Contains chosen c)
  pub order : KeepsOrder cells chosen

abbrev Holds : (CellSeen → CellSeen → Bool) → CellSeen → CellSeen → Type 0
Holds r c e = r c e ≡ true

pub chosen_none : (P : CellSeen → Type 0) → Chosen P [] []
chosen_none P = record { are = λ c. ((λ at. absurd (none c at)), (λ h. absurd (none c h.0))); order = λ r h. h }

module _ (r : CellSeen → CellSeen → Bool) (cells : List CellSeen) (c : CellSeen) (h : AllPairs (Holds r) (cells ++ c ∷ [])) where
  first_pairs : AllPairs (Holds r) cells
  first_pairs i j d less lt =
      let long = length-append cells (c ∷ []) in
      let a = get_or_append_left cells (c ∷ []) d i (omega (arith, less, lt)) in
      let b = get_or_append_left cells (c ∷ []) d j lt in
      subst (λ (x : CellSeen). Holds r x (slice_index_or cells j d)) a (subst (λ (y : CellSeen). Holds r (slice_index_or (cells ++ c ∷ []) i d) y) b (h i j d less (omega (arith, lt, long))))

  before_last : (x : CellSeen) → Contains cells x → Holds r x c
  before_last x (k, lt, at) =
      let long = length-append cells (c ∷ []) in
      let a = get_or_append_left cells (c ∷ []) x k lt in
      let b = get_or_push cells c x (length cells) refl in
      subst (λ (y : CellSeen). Holds r y c) (a ∙ at) (subst (λ (y : CellSeen). Holds r (slice_index_or (cells ++ c ∷ []) k x) y) b (h k (length cells) x lt (omega (arith, long))))

module _ (P : CellSeen → Type 0) (cells chosen : List CellSeen) (c : CellSeen) (h : Chosen P cells chosen) where
  pub chosen_skip : (P c → ⊥) → Chosen P (cells ++ c ∷ []) chosen
  chosen_skip other = record {
    are = λ x. (
      (λ at. let (a, p) = (h.are x).0 at in (Contains-append_left cells (c ∷ []) x a, p)),
      (λ b. elim (Contains-push_cases cells c x b.0) [ inl first ↦ (h.are x).1 (first, b.1) | inr same ↦ absurd (other (subst P (sym same) b.1)) ]),
    );
    order = λ r all. h.order r (first_pairs r cells c all);
  }

  pub chosen_more : P c → Chosen P (cells ++ c ∷ []) (chosen ++ c ∷ [])
  chosen_more p = record {
    are = λ x. (
      (λ at. elim (Contains-push_cases chosen c x at) [
        | inl first ↦ let (a, q) = (h.are x).0 first in (Contains-append_left cells (c ∷ []) x a, q)
        | inr same ↦ (subst (Contains (cells ++ c ∷ [])) same (Contains-push cells c), subst P same p)
      ]),
      (λ b. elim (Contains-push_cases cells c x b.0) [
        | inl first ↦ Contains-append_left chosen (c ∷ []) x ((h.are x).1 (first, b.1))
        | inr same ↦ subst (Contains (chosen ++ c ∷ [])) same (Contains-push chosen c)
      ]),
    );
    order = λ r all. all_pairs_push (Holds r) chosen c (h.order r (first_pairs r cells c all)) (λ k d lt. before_last r cells c all (slice_index_or chosen k d) ((h.are (slice_index_or chosen k d)).0 (k, lt, ap (λ (y : CellSeen). y) (same_place chosen k d lt))).0);
  }
    where
      same_place : (xs : List CellSeen) (k : ℕ) (d : CellSeen) → k < length xs → slice_index_or xs k (slice_index_or xs k d) ≡ slice_index_or xs k d
      same_place [] k d lt = absurd (omega (arith, lt))
      same_place (x ∷ xs) zero d lt = refl
      same_place (x ∷ xs) (suc k) d lt = same_place xs k d (omega (arith, lt))

-- ---- what is written and read

module _ (d : Demand Ask) (f : ℕ → Option Ask) (beside : List ℕ) where
  abbrev pub Written : CellSeen → Type 0
  Written c = IsWrittenBy d c f beside

  abbrev pub ReadAlone : CellSeen → Type 0
  ReadAlone c = IsReadAt d (node_of c) × (IsWrittenBy d c f beside → ⊥)

  -- as far as the cells were gone through
  pub record AreMarking (cells reads writes : List CellSeen) : Type 0 where
    pub read : Chosen ReadAlone cells reads
    pub written : Chosen Written cells writes

  pub marking_none : AreMarking [] [] []
  marking_none = record { read = chosen_none ReadAlone; written = chosen_none Written }

  pub marking_more : (cells reads writes more_reads more_writes : List CellSeen) (c : CellSeen) → AreMarking cells reads writes → AddsMark d f beside c reads writes more_reads more_writes → AreMarking (cells ++ c ∷ []) more_reads more_writes
  marking_more cells reads writes more_reads more_writes c h (inl (written, added, same)) = record {
    read = subst (Chosen ReadAlone (cells ++ c ∷ [])) (sym same) (chosen_skip ReadAlone cells reads c h.read (λ both. both.1 written));
    written = subst (Chosen Written (cells ++ c ∷ [])) (sym added) (chosen_more Written cells writes c h.written written);
  }
  marking_more cells reads writes more_reads more_writes c h (inr (other, same, inl (read, added))) = record {
    read = subst (Chosen ReadAlone (cells ++ c ∷ [])) (sym added) (chosen_more ReadAlone cells reads c h.read (read, other));
    written = subst (Chosen Written (cells ++ c ∷ [])) (sym same) (chosen_skip Written cells writes c h.written other);
  }
  marking_more cells reads writes more_reads more_writes c h (inr (other, same, inr (not_read, still))) = record {
    read = subst (Chosen ReadAlone (cells ++ c ∷ [])) (sym still) (chosen_skip ReadAlone cells reads c h.read (λ both. not_read both.0));
    written = subst (Chosen Written (cells ++ c ∷ [])) (sym same) (chosen_skip Written cells writes c h.written other);
  }

module _ (d : Demand Ask) (met : List CellSeen) (root : Root) (m : AreMet met root) (f : ℕ → Option Ask) (a : AreAsks d (by_name met) met f) (beside : List ℕ) (b : AreBeside d met beside) where
  abbrev t : Store Value
  t = by_name met

  heard_all : (c : CellSeen) → Contains met c → heard_by_id f (node_of c).names ≡ heard (ask d t ((node_of c).level - 1)) t (node_of c).names
  heard_all c at = by c.level refl
    where
      by : (l : ℕ) → c.level ≡ l → heard_by_id f (node_of c).names ≡ heard (ask d t ((node_of c).level - 1)) t (node_of c).names
      by zero level = data_silent c f level ∙ sym (silent ((node_of c).level - 1))
        where
          silent : (l : ℕ) → heard (ask d t l) t (node_of c).names ≡ []
          silent l = ap (heard (ask d t l) t) (data_nameless c level)
      by (suc l) level =
          let up = node_level c in
          let low : (node_of c).level - 1 ≡ l = omega (arith, up, level) in
          heard_same d t l f (node_of c).names (heard_of d met root m c at met (λ x h. h) (λ x h lt. h) f a l level) ∙ ap (λ (i : ℕ). heard (ask d t i) t (node_of c).names) (sym low)

  beside_to : (i : ℕ) → StandsBeside d met i → IsBeside d t i
  beside_to i s = let (x, at, turns, has) = s in let (n, named, id) = has in (x.id, node_of x, n, stands d met root m x at, turns, named, id)

  beside_from : (i : ℕ) → IsBeside d t i → StandsBeside d met i
  beside_from i s =
      let (j, c, n, is, turns, named, id) = s in
      let (x, at, same, says) = found met j c is in
      (x, at, subst (λ (e : Node Value). d.turns e ≡ true) says turns, (n, subst (λ (e : Node Value). Contains (d.beside e) n) says named, id))

  pub written_to : (c : CellSeen) → Contains met c → IsWrittenBy d c f beside → IsWritten d t c.id
  written_to c at w = (node_of c, stands d met root m c at, by w)
    where
      by : IsWrittenBy d c f beside → IsWrittenAt d (node_of c) ⊎ ((d.turns (node_of c) ≡ true) ⊎ (IsBeside d t c.id ⊎ IsAsked d t (node_of c)))
      by (inl keys) = inl keys
      by (inr (inl turns)) = inr (inl turns)
      by (inr (inr (inl stands_there))) = inr (inr (inl (beside_to c.id ((b c.id).0 stands_there))))
      by (inr (inr (inr hears))) = inr (inr (inr (λ silent. hears (heard_all c at ∙ silent))))

  pub written_from : (c : CellSeen) → Contains met c → IsWritten d t c.id → IsWrittenBy d c f beside
  written_from c at w =
      let (e, is, kind) = w in
      by (subst (λ (x : Node Value). IsWrittenAt d x ⊎ ((d.turns x ≡ true) ⊎ (IsBeside d t c.id ⊎ IsAsked d t x))) (same_Some e (node_of c) (sym is ∙ stands d met root m c at)) kind)
    where
      by : IsWrittenAt d (node_of c) ⊎ ((d.turns (node_of c) ≡ true) ⊎ (IsBeside d t c.id ⊎ IsAsked d t (node_of c))) → IsWrittenBy d c f beside
      by (inl keys) = inl keys
      by (inr (inl turns)) = inr (inl turns)
      by (inr (inr (inl stands_there))) = inr (inr (inl ((b c.id).1 (beside_from c.id stands_there))))
      by (inr (inr (inr asked))) = inr (inr (inr (λ silent. asked (sym (heard_all c at) ∙ silent))))

  read_to : (c : CellSeen) → Contains met c → ReadAlone d f beside c → IsRead d t c.id
  read_to c at h = (inr (node_of c, stands d met root m c at, h.0), (λ w. h.1 (written_from c at w)))

  read_from : (c : CellSeen) → Contains met c → IsRead d t c.id → ReadAlone d f beside c
  read_from c at h = (by h.0, (λ w. h.1 (written_to c at w)))
    where
      by : IsReached d t c.id → IsReadAt d (node_of c)
      by (inl w) = absurd (h.1 w)
      by (inr (e, is, read)) = subst (λ (x : Node Value). IsReadAt d x) (same_Some e (node_of c) (sym is ∙ stands d met root m c at)) read

  pub marked : (reads writes : List CellSeen) (rises : Option Ask) → AreMarking d f beside met reads writes → rises ≡ f root.id → AreMarks d met root reads writes rises
  marked reads writes rises h is = record {
    read = record {
      are = λ c. ((λ at. let (x, p) = (h.read.are c).0 at in (x, read_to c x p)), (λ both. (h.read.are c).1 (both.0, read_from c both.0 both.1)));
      order = h.read.order;
    };
    written = record {
      are = λ c. ((λ at. let (x, p) = (h.written.are c).0 at in (x, written_to c x p)), (λ both. (h.written.are c).1 (both.0, written_from c both.0 both.1)));
      order = h.written.order;
    };
    rising = λ x. (
      (λ e. (m.part.root_node, m.part.root_is, sym asked ∙ (sym is ∙ e))),
      (λ s. let (node, there_is, asks) = s in is ∙ (asked ∙ (ap (λ (y : Node Value). ask d t root.height y) (same_Some m.part.root_node node (sym m.part.root_is ∙ there_is)) ∙ asks))),
    );
  }
    where
      asked : f root.id ≡ ask d t root.height m.part.root_node
      asked =
          let (x, at, id, says) = found met root.id m.part.root_node m.part.root_is in
          let level = m.part.root_level in
          let same = ap (λ (y : Node Value). y.level) says in
          let up = node_level x in
          let high : x.level ≡ root.height = omega (arith, level, same, up) in
          ap f (sym id) ∙ (a.asks x at ∙ (ap (λ (i : ℕ). ask d t i (node_of x)) high ∙ ap (λ (y : Node Value). ask d t root.height y) (sym says)))

pub all_taken : {A : Type 0} (k : ℕ) (xs : List A) → length xs ≤ k → take k xs ≡ xs
all_taken zero [] le = refl
all_taken zero (x ∷ xs) le = absurd (omega (arith, le))
all_taken (suc k) [] le = refl
all_taken (suc k) (x ∷ xs) le = ap (λ ys. x ∷ ys) (all_taken k xs (omega (arith, le)))

-- one more of the first ones
pub taken_more : {A : Type 0} (k : ℕ) (xs : List A) (x : A) → slice_get xs k ≡ Some x → take (k + 1) xs ≡ take k xs ++ x ∷ []
taken_more {A} k xs x is = let e : suc k ≡ k + 1 = omega arith in subst (λ (n : ℕ). take n xs ≡ take k xs ++ x ∷ []) e (by k xs is)
  where
    by : (k : ℕ) (xs : List A) → slice_get xs k ≡ Some x → take (suc k) xs ≡ take k xs ++ x ∷ []
    by k [] is = absurd cc
    by zero (y ∷ ys) is = ap (λ z. z ∷ []) (same_Some y x is)
    by (suc k) (y ∷ ys) is = ap (λ zs. y ∷ zs) (by k ys is)

-- ---- one cell

module _ (d : Demand Ask) (f : ℕ → Option Ask) (beside : List ℕ) (c x : CellSeen) (same : x ≡ c) (reads writes : List CellSeen) (b : Bool) (says : (b ≡ true → IsWrittenBy d x f beside) × (IsWrittenBy d x f beside → b ≡ true)) where
  pub one_written : (more : List CellSeen) → b ≡ true → more ≡ writes ++ c ∷ [] → AddsMark d f beside c reads writes reads more
  one_written more is added = inl (subst (λ (y : CellSeen). IsWrittenBy d y f beside) same (says.0 is), added, refl)

  not_written : b ≡ false → IsWrittenBy d c f beside → ⊥
  not_written is w = let e = sym (says.1 (subst (λ (y : CellSeen). IsWrittenBy d y f beside) (sym same) w)) ∙ is in cc

  module _ (z : CellSeen) (also : z ≡ c) (r : Bool) (tells : (r ≡ true → IsReadAt d (node_of z)) × (IsReadAt d (node_of z) → r ≡ true)) where
    pub one_read : (more : List CellSeen) → b ≡ false → r ≡ true → more ≡ reads ++ c ∷ [] → AddsMark d f beside c reads writes more writes
    one_read more is read added = inr (not_written is, refl, inl (subst (λ (y : CellSeen). IsReadAt d (node_of y)) also (tells.0 read), added))

    pub one_left : b ≡ false → r ≡ false → AddsMark d f beside c reads writes reads writes
    one_left is read = inr (not_written is, refl, inr ((λ w. let e = sym (tells.1 (subst (λ (y : CellSeen). IsReadAt d (node_of y)) (sym also) w)) ∙ read in cc), refl))

-- for how many pointers these cells ask in all
pub asked_in_all : (d : Demand Ask) (t : Store Value) (f : ℕ → Option Ask) (met cells : List CellSeen)
    → AreAsks d t met f → ((c : CellSeen) → Contains cells c → Contains met c)
    → sum_by (λ (c : CellSeen). more_of (f c.id)) cells ≡ more_in d t cells
asked_in_all d t f met [] a sub = refl
asked_in_all d t f met (c ∷ cells) a sub =
    let rest = asked_in_all d t f met cells a (λ x at. sub x (later c x cells at)) in
    let first = ap more_of (a.asks c (sub c (here c cells))) in
    sum_by-cons (λ (x : CellSeen). more_of (f x.id)) c cells
    ∙ ((λ i. first i + rest i) ∙ sym (sum_by-cons (λ (x : CellSeen). more_of (ask d t x.level (node_of x))) c cells))
