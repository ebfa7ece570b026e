-- Pieces that stay, and leaves that go and come, one piece after the other.
use Rattle.std.proofs.Common.{◌≡◌, inl, inr, ℕ, ◌<◌, ◌≤◌, true, false, List, [], ◌∷◌, ◌++◌, map, refl, sym, ap, subst}
use Rattle.std.proofs.Common.{◌∙◌, arith}
use Rattle.std.specs.Prelude.{Bool, Contains, Some, ◌&&◌, ◌==◌, if◌then◌else◌, nat_le, nat_lt}
use Rattle.std.specs.Arc.{arc_value}
use Rattle.std.proofs.lemmas.Bool.{eq-eqb}
use Rattle.std.proofs.lemmas.Bool.Decides.{nat_tests}
use Rattle.std.proofs.lemmas.List.{append-nil, append_assoc}
use Rattle.std.proofs.lemmas.Option.{same_Some}
use Rattle.r4_base.specs.Key.{rank}
use Rattle.r4_base.specs.Node.{items_of}
use Rattle.r4_work.specs.r4_branch.Pieces.{next_of}
use Rattle.r4_work.specs.r4_branch.declared.piece.TwigPiece.{TwigPiece}
use Rattle.r4_base.specs.declared.key.Key.{Key}
use Rattle.r4_work.specs.r4_cell.Seen.{CellSeen, node_of}
use Rattle.r4_work.specs.r4_cell.declared.change.Fresh.{Fresh}
use Rattle.r4_work.specs.r4_leaf.Units.{LeafUnit}
use Rattle.r4_work.proofs.r4_patch.Members.{cases, none}
use Rattle.r4_work.specs.r4_edit.LeafParts.{IsRightPart, first_from, right_id}
use Rattle.r4_row_gather.specs.Clearing.{AreSortedOut, Begins, Goes, IsBegunLater, IsLeafAt, IsShortened}
use Rattle.r4_row_gather.specs.Clearing.{Stays}
use Rattle.r4_row_gather.specs.Clearing.{begins_in_way, coming, going, is_in_way, is_pointer, staying}
use Rattle.r4_row_gather.specs.declared.clearing.Clearing.{Clearing}

-- the first unit from a key on is not below it
pub first_behind : (k m : ℕ) (us : List LeafUnit) → first_from k us ≡ Some m → k ≤ m
first_behind k m [] e = absurd cc
first_behind k m (u ∷ us) e = by_test (nat_le k u.0) refl (λ h. first_behind k m us h) e
  where
    by_test : (b : Bool) → nat_le k u.0 ≡ b → (first_from k us ≡ Some m → k ≤ m)
        → (if b then Some u.0 else first_from k us) ≡ Some m → k ≤ m
    by_test true low rest h = let same = same_Some u.0 m h in grind (arith, nat_tests, low, same)
    by_test false low rest h = rest h

-- what begins behind the range is not in the way
pub out_behind : (from to : ℕ) (p : TwigPiece) → to ≤ rank p.key → is_in_way from to p ≡ false
out_behind from to p le = by_tests (is_pointer p.part) (nat_le from (rank p.key)) (nat_lt (rank p.key) to) (grind (arith, nat_tests, le))
  where
    by_tests : (a b c : Bool) → c ≡ false → (a && (b && c)) ≡ false
    by_tests false b c e = refl
    by_tests true false c e = refl
    by_tests true true c e = e

module _ (cells : List CellSeen) (from to hi : ℕ) where
  pub sorted_none : (before : Clearing) → AreSortedOut cells from to hi [] before before
  sorted_none before = record {
    fates = [];
    may = tt;
    stay = sym (append-nil before.pieces.items);
    go = sym (append-nil (map arc_value before.gone.items));
    come = sym (append-nil (map arc_value before.come.items));
    among = λ c at. absurd (none c at);
    first = λ out. refl;
    clear = λ p at. absurd (none p at);
  }

  pub sorted_stays : (p : TwigPiece) (rest : List TwigPiece) (before mid after : Clearing)
      → is_in_way from to p ≡ false → (is_pointer p.part && begins_in_way from to rest) ≡ false
      → mid.pieces.items ≡ before.pieces.items ++ p ∷ [] → mid.gone ≡ before.gone → mid.come ≡ before.come
      → AreSortedOut cells from to hi rest mid after
      → AreSortedOut cells from to hi (p ∷ rest) before after
  sorted_stays p rest before mid after out apart stay go come s = record {
    fates = Stays ∷ s.fates;
    may = ((λ pointer. s.first (other (is_pointer p.part) (begins_in_way from to rest) apart pointer)), s.may);
    stay = s.stay ∙ (ap (λ xs. xs ++ staying rest s.fates) stay
        ∙ append_assoc before.pieces.items (p ∷ []) (staying rest s.fates));
    go = s.go ∙ ap (λ v. map arc_value v.items ++ going s.fates) go;
    come = s.come ∙ ap (λ v. map arc_value v.items ++ coming s.fates) come;
    among = s.among;
    first = λ way. refl;
    clear = λ q at. elim (cases p q (staying rest s.fates) at) [
      | inl is ↦ ap (is_in_way from to) is ∙ out
      | inr more ↦ s.clear q more
    ];
  }
    where
      other : (a b : Bool) → (a && b) ≡ false → a ≡ true → b ≡ false
      other true b e is = e
      other false b e is = absurd cc

  differ : (b : Bool) → b ≡ true → b ≡ false → ⊥
  differ true one two = absurd cc
  differ false one two = absurd cc

  first_or_more : (c : CellSeen) (gone : List CellSeen) → Contains cells c
      → ((x : CellSeen) → Contains gone x → Contains cells x) → (x : CellSeen) → Contains (c ∷ gone) x → Contains cells x
  first_or_more c gone there more x at = elim (cases c x gone at) [
    | inl is ↦ subst (Contains cells) (sym is) there
    | inr rest ↦ more x rest
  ]

  pub sorted_goes : (p : TwigPiece) (rest : List TwigPiece) (before mid after : Clearing) (c : CellSeen)
      → is_in_way from to p ≡ true → IsLeafAt (next_of hi rest) p c → items_of c.block ≡ [] → Contains cells c
      → mid.pieces ≡ before.pieces → map arc_value mid.gone.items ≡ map arc_value before.gone.items ++ c ∷ []
      → mid.come ≡ before.come → AreSortedOut cells from to hi rest mid after
      → AreSortedOut cells from to hi (p ∷ rest) before after
  sorted_goes p rest before mid after c way leaf empty there stay go come s = record {
    fates = Goes c ∷ s.fates;
    may = (leaf, empty, s.may);
    stay = s.stay ∙ ap (λ v. v.items ++ staying rest s.fates) stay;
    go = s.go ∙ (ap (λ xs. xs ++ going s.fates) go
        ∙ append_assoc (map arc_value before.gone.items) (c ∷ []) (going s.fates));
    come = s.come ∙ ap (λ v. map arc_value v.items ++ coming s.fates) come;
    among = first_or_more c (going s.fates) there s.among;
    first = λ out. absurd (differ (is_in_way from to p) way out);
    clear = s.clear;
  }

  pub sorted_begins : (p : TwigPiece) (rest : List TwigPiece) (before mid after : Clearing) (c : CellSeen)
      → is_in_way from to p ≡ true → IsLeafAt (next_of hi rest) p c → Contains cells c
      → begins_in_way from to rest ≡ false → IsBegunLater to p c before mid
      → AreSortedOut cells from to hi rest mid after → AreSortedOut cells from to hi (p ∷ rest) before after
  sorted_begins p rest before mid after c way leaf there apart b s = record {
    fates = Begins c b.later ∷ s.fates;
    may = (leaf, b.is, s.first apart, s.may);
    stay = s.stay ∙ (ap (λ xs. xs ++ staying rest s.fates) b.stay
        ∙ append_assoc before.pieces.items (record p { key = b.later.lo } ∷ []) (staying rest s.fates));
    go = s.go ∙ (ap (λ xs. xs ++ going s.fates) b.go
        ∙ append_assoc (map arc_value before.gone.items) (c ∷ []) (going s.fates));
    come = s.come ∙ (ap (λ xs. xs ++ coming s.fates) b.come
        ∙ append_assoc (map arc_value before.come.items) (b.later ∷ []) (coming s.fates));
    among = first_or_more c (going s.fates) there s.among;
    first = λ out. absurd (differ (is_in_way from to p) way out);
    clear = λ q at. elim (cases (record p { key = b.later.lo }) q (staying rest s.fates) at) [
      | inl is ↦ ap (is_in_way from to) is ∙ out_behind from to (record p { key = b.later.lo }) b.from
      | inr more ↦ s.clear q more
    ];
  }

-- what is of a leaf from its first key on
pub is_shortened : (leaf part : CellSeen) (key : Key) (fresh : Fresh) → key ≡ leaf.lo
    → IsRightPart leaf key (right_id leaf key fresh) part → rank part.lo < rank leaf.hi → IsShortened leaf part
is_shortened leaf part key fresh same is within = record {
  part = subst (λ i. IsRightPart leaf leaf.lo i part) (its_id (rank leaf.lo == rank leaf.lo) (eq-eqb (rank leaf.lo) (rank leaf.lo) refl))
      (subst (λ k. IsRightPart leaf k (right_id leaf k fresh) part) same is);
  behind = first_behind (rank leaf.lo) (rank part.lo) (node_of leaf).units
      (subst (λ (k : Key). first_from (rank k) (node_of leaf).units ≡ Some (rank part.lo)) same is.from);
  within = within;
}
  where
    its_id : (b : Bool) → b ≡ true → (if b then leaf.id else fresh.next) ≡ leaf.id
    its_id true e = refl
    its_id false e = absurd cc
