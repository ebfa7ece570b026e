-- An atom is flushed: sealed with what was prepared, or with nothing.
use Rattle.std.proofs.Common.{◌≡◌, ◌==◌, inl, inr, ℕ, List, [], length, ◌∙◌, subst, true}
use Rattle.std.specs.Prelude.{◌↔◌, Contains, Err, Ok, OnErr, OnOk, Result, Some}
use Rattle.std.specs.Result.{is_err}
use Rattle.std.proofs.lemmas.Bool.{eqb-true}
use Rattle.std.proofs.lemmas.List.{nil_from_length}
use Rattle.r4_atoms.specs.Atoms.{AtomsSeen, numbers, owner_of}
use Rattle.r4_base.proofs.Members.{no_member}
use Rattle.r4_base.specs.declared.things.AtomNo.{AtomNo}
use Rattle.r4_base.specs.declared.things.NodeId.{NodeId}
use Rattle.r4_cell.specs.Seen.{CellSeen}
use Rattle.r4_core.specs.r4_flush.declared.preparing.Prepared.{Prepared}
use Rattle.r4_core.specs.r4_flushing.Sealable.{MaySeal}
use Rattle.r4_core.specs.r4_flushing.Sealing.{HasSealed}
use Rattle.r4_core.specs.r4_kept.Steps.{sealed_empty}
use Rattle.r4_core.specs.r4_kept.View.{CoreSeen}
use Rattle.r4_core.specs.r4_ready.Rooms.{HasMoreRoom}
use Rattle.r4_seal.specs.Flushing.{IsFlushed}

pub on_ok : {A E : Type 0} (x : Result A E) (P Q : Type 0) → (P → Q) → OnOk x P → OnOk x Q
on_ok (Ok a) P Q f p = f p
on_ok (Err e) P Q f p = tt

pub on_err : {A E : Type 0} (x : Result A E) (P Q : Type 0) → (P → Q) → OnErr x P → OnErr x Q
on_err (Ok a) P Q f p = tt
on_err (Err e) P Q f p = f p

pub any_err : {A E : Type 0} (x : Result A E) (P : Type 0) → P → OnErr x P
any_err (Ok a) P p = tt
any_err (Err e) P p = p

pub at_err : {A E : Type 0} (x : Result A E) (P : Type 0) → is_err x ≡ true → OnErr x P → P
at_err (Ok a) P is p = absurd (cc is)
at_err (Err e) P is p = p

pub none_of : {A : Type 0} (xs : List A) (n : ℕ) → length xs ≡ n → (n == 0) ≡ true → xs ≡ []
none_of xs n long none = nil_from_length xs (long ∙ eqb-true n 0 none)

none_owned : (s : AtomsSeen) (a : ℕ) (nodes : List NodeId) → nodes ≡ []
    → ((n : ℕ) → Contains (numbers nodes) n ↔ (owner_of s n ≡ Some a)) → (i : ℕ) → owner_of s i ≡ Some a → ⊥
none_owned s a nodes none owned i is =
    no_member i (subst (λ (l : List NodeId). Contains (numbers l) i) none ((owned i).1 is))

pub flushed_empty : {D : Type 0} (old mid new : CoreSeen D) (a : AtomNo) (nodes : List NodeId) → HasMoreRoom old mid
    → nodes ≡ [] → ((n : ℕ) → Contains (numbers nodes) n ↔ (owner_of mid.atoms n ≡ Some a.0))
    → new ≡ sealed_empty mid a → IsFlushed old new a
flushed_empty old mid new a nodes more none owned is = inl (record {
  none = λ i own. none_owned mid.atoms a.0 nodes none owned i (more.owners i ∙ own);
  roomy = mid;
  room = more;
  sealed = is;
})

pub flushed_with : {D : Type 0} (old mid new : CoreSeen D) (a : AtomNo) (p : Prepared) → HasMoreRoom old mid
    → (cells : List CellSeen) → MaySeal mid a p cells → ((xs : List CellSeen) → MaySeal mid a p xs → HasSealed mid new a xs p)
    → IsFlushed old new a
flushed_with old mid new a p more cells may sealed = inr (record {
  roomy = mid;
  room = more;
  cells = cells;
  prepared = p;
  may = may;
  sealed = sealed cells may;
})
