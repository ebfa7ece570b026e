-- Which blocks are deferred for an atom, and for the others, once those of a change are.
use Rattle.std.proofs.Common.{◌≡◌, ◌≢◌, ◌==◌, ℕ, Bool, ◌||◌, List, [], ◌∷◌, ◌++◌, refl, sym, ◌∙◌, ap, subst}
use Rattle.std.proofs.Common.{map}
use Rattle.std.proofs.lemmas.Bool.{eq-eqb, ne_eqb}
use Rattle.std.proofs.lemmas.List.{append-nil}
use Rattle.std.proofs.lemmas.List.Elements.{filter-append}
use Rattle.std.proofs.lemmas.List.Folds.{list_any-append}
use Rattle.r4_accounting.specs.Accounting.{claim_of, deferring, freed}
use Rattle.r4_base.specs.declared.things.AtomNo.{AtomNo}
use Rattle.r4_accounting.specs.r4_buffer.Changed.{has_name}
use Rattle.r4_accounting.specs.r4_cell.Seen.{CellSeen}
use Rattle.r4_accounting.specs.r4_durable.GoingOn.{MarksAlike}
use Rattle.r4_accounting.specs.r4_sealed.Commits.{IsLater}
use Rattle.r4_space.specs.Accounts.{is_atom}
use Rattle.r4_space.specs.Space.{Space, charged, claims_of, is_block, is_claimed}
use Rattle.r4_space.specs.declared.things.Claim.{Claim}
use Rattle.r4_freed.specs.Freed.{HasFreed}

-- ---- claims of cells' blocks

module _ (atom : AtomNo) where
  -- they are the atom's
  own_all : (xs : List CellSeen) → claims_of atom (map (claim_of atom) xs) ≡ map (claim_of atom) xs
  own_all [] = refl
  own_all (x ∷ xs) = rw (eq-eqb atom.0 atom.0 refl) (ap (λ (l : List Claim). claim_of atom x ∷ l) (own_all xs))

  -- and no other one's
  none_of : (other : AtomNo) → other.0 ≢ atom.0 → (xs : List CellSeen) → claims_of other (map (claim_of atom) xs) ≡ []
  none_of other unlike [] = refl
  none_of other unlike (x ∷ xs) = rw (ne_eqb atom.0 other.0 (λ e. unlike (sym e))) (none_of other unlike xs)

  -- they claim the cells' names
  claim_names : (xs : List CellSeen) (k : ℕ) → is_claimed (map (claim_of atom) xs) k ≡ has_name xs k
  claim_names [] k = refl
  claim_names (x ∷ xs) k = ap (λ (t : Bool). (x.id == k) || t) (claim_names xs k)

module _ (s later : Space) (atom : AtomNo) (cells fresh : ℕ) (old new : List CellSeen)
    (h : HasFreed s later atom cells fresh old new) where
  -- the cells whose blocks are deferred
  abbrev pub gone : List CellSeen
  gone = freed (charged s atom cells fresh) old new

  -- no block is marked or placed
  pub alike : MarksAlike s later
  alike =
      subst (MarksAlike s) (sym h.deferred.is)
      (let same : MarksAlike s (deferring (charged s atom cells fresh) atom (freed (charged s atom cells fresh) old new)) =
      record { count = refl; marked = refl; placed = refl } in same)

  deferred_are : later.deferred ≡ s.deferred ++ map (claim_of atom) gone
  deferred_are = ap (λ (x : Space). x.deferred) h.deferred.is

  pub others_stay : (other : AtomNo) → other.0 ≢ atom.0 → claims_of other later.deferred ≡ claims_of other s.deferred
  others_stay other unlike =
      ap (claims_of other) deferred_are
      ∙ filter-append (λ c. is_atom other c.atom) s.deferred (map (claim_of atom) gone)
      ∙ ap (λ (l : List Claim). claims_of other s.deferred ++ l) (none_of atom other unlike gone)
      ∙ append-nil (claims_of other s.deferred)

  pub own_then : (k : ℕ) → is_claimed (claims_of atom later.deferred) k
      ≡ (is_claimed (claims_of atom s.deferred) k || has_name gone k)
  own_then k =
      ap (λ (l : List Claim). is_claimed (claims_of atom l) k) deferred_are
      ∙ ap (λ (l : List Claim). is_claimed l k)
      (filter-append (λ c. is_atom atom c.atom) s.deferred (map (claim_of atom) gone)
      ∙ ap (λ (l : List Claim). claims_of atom s.deferred ++ l) (own_all atom gone))
      ∙ list_any-append (is_block k) (claims_of atom s.deferred) (map (claim_of atom) gone)
      ∙ ap (λ (t : Bool). is_claimed (claims_of atom s.deferred) k || t) (claim_names atom gone k)

  -- the space of another atom's commit goes along
  pub later_still : (other : AtomNo) → other.0 ≢ atom.0 → (x : Space) → IsLater x s other → IsLater x later other
  later_still other unlike x was = record {
    count = alike.count ∙ was.count;
    marked = alike.marked ∙ was.marked;
    placed = alike.placed ∙ was.placed;
    freed = λ b. ap (λ (l : List Claim). is_claimed l b) (others_stay other unlike) ∙ was.freed b;
  }
