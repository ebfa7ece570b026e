-- Sealed atoms that own nodes, and what stands in the way of a command.
use Rattle.std.proofs.Common.{◌≡◌, inl, inr, ℕ, suc, ◌+◌, ◌<◌, ◌≤◌, List, [], ◌∷◌, ◌++◌, length, take, drop}
use Rattle.std.proofs.Common.{None, arith, sym, ap, subst, ◌∙◌, get_or}
use Rattle.std.proofs.Math.Seq.{take-suc}
use Rattle.std.proofs.lemmas.List.{map-append, take-append-drop, take_all}
use Rattle.std.proofs.lemmas.List.Elements.{Contains-append_cases}
use Rattle.std.proofs.lemmas.List.Elements.{Contains-append_left, Contains-append_right}
use Rattle.std.proofs.lemmas.Option.{none-some}
use Rattle.std.specs.Prelude.{Contains}
use Rattle.r4_atoms.specs.Atoms.{AtomsSeen, numbers}
use Rattle.r4_base.specs.declared.things.NodeId.{NodeId}
use Rattle.r4_history.specs.Held.{Need}
use Rattle.r4_history.specs.Serving.{IsInTheWay, IsSealedOwner}
use Rattle.r4_history.specs.declared.why.Why.{Why}
use Rattle.r4_history.specs.declared.why.Why.TheVariants.{Held, Open, Out, Sealed}
use Rattle.r4_locks.specs.Locks.{LocksSeen, conflict_of}
use Rattle.r4_serve.specs.Serving.{IsSealedOwnerOf, NoneSealed}

module _ (s : AtomsSeen) where
  -- ---- several

  module _ (ns : List NodeId) (i : ℕ) (d : NodeId) (less : i < length ns) where
    abbrev x : NodeId
    x = get_or ns i d

    up_to : numbers (take (i + 1) ns) ≡ numbers (take i ns) ++ (x.0 ∷ [])
    up_to =
        ap (λ (n : ℕ). numbers (take n ns)) next
        ∙ (ap numbers (take-suc ns i d less)
        ∙ map-append (λ (n : NodeId). n.0) (take i ns) (x ∷ []))
      where
        next : i + 1 ≡ suc i
        next = omega arith

    pub none_up_to : NoneSealed s (numbers (take i ns)) → NoneSealed s (x.0 ∷ [])
        → NoneSealed s (numbers (take (i + 1) ns))
    none_up_to before one = subst (NoneSealed s) (sym up_to) (λ a h.
        elim (Contains-append_cases (numbers (take i ns)) (x.0 ∷ []) h.node h.among) [
          | inl first ↦ before a (record { node = h.node; among = first; owner = h.owner; sealed = h.sealed })
          | inr last ↦ one a (record { node = h.node; among = last; owner = h.owner; sealed = h.sealed })
        ])

    parted : numbers ns ≡ (numbers (take i ns) ++ (x.0 ∷ [])) ++ numbers (drop (i + 1) ns)
    parted =
        ap numbers (sym (take-append-drop (i + 1) ns))
        ∙ (map-append (λ (n : NodeId). n.0) (take (i + 1) ns) (drop (i + 1) ns)
        ∙ ap (λ (l : List ℕ). l ++ numbers (drop (i + 1) ns)) up_to)

    pub owner_there : (a : ℕ) → IsSealedOwnerOf s (x.0 ∷ []) a → IsSealedOwnerOf s (numbers ns) a
    owner_there a h = record {
      node = h.node;
      among = subst (λ (l : List ℕ). Contains l h.node) (sym parted)
          (Contains-append_left (numbers (take i ns) ++ (x.0 ∷ [])) (numbers (drop (i + 1) ns)) h.node
          (Contains-append_right (numbers (take i ns)) (x.0 ∷ []) h.node h.among));
      owner = h.owner;
      sealed = h.sealed;
    }

  pub none_of_all : (ns : List NodeId) (i : ℕ) → length ns ≤ i → NoneSealed s (numbers (take i ns))
      → NoneSealed s (numbers ns)
  none_of_all ns i le f = subst (λ (l : List NodeId). NoneSealed s (numbers l)) (take_all i ns le) f

  -- ---- of a need

  module _ (need : Need) where
    pub owner_of_read : (a : ℕ) → IsSealedOwnerOf s (numbers need.reads) a → IsSealedOwner s need a
    owner_of_read a h = record {
      node = h.node;
      reached = Contains-append_left (numbers need.reads) (numbers need.writes) h.node h.among;
      owner = h.owner;
      sealed = h.sealed;
    }

    pub owner_of_written : (a : ℕ) → IsSealedOwnerOf s (numbers need.writes) a → IsSealedOwner s need a
    owner_of_written a h = record {
      node = h.node;
      reached = Contains-append_right (numbers need.reads) (numbers need.writes) h.node h.among;
      owner = h.owner;
      sealed = h.sealed;
    }

    pub none_in_need : NoneSealed s (numbers need.reads) → NoneSealed s (numbers need.writes) → (a : ℕ)
        → IsSealedOwner s need a → ⊥
    none_in_need reads writes a h =
        elim (Contains-append_cases (numbers need.reads) (numbers need.writes) h.node h.reached) [
          | inl one ↦ reads a (record { node = h.node; among = one; owner = h.owner; sealed = h.sealed })
          | inr more ↦ writes a (record { node = h.node; among = more; owner = h.owner; sealed = h.sealed })
        ]

    -- nothing stands in the way
    pub is_clear : (locks : LocksSeen) → ((a : ℕ) → IsSealedOwner s need a → ⊥)
        → conflict_of locks None need.reads need.writes ≡ None → (w : Why) → IsInTheWay s locks need w → ⊥
    is_clear locks none free (Out task) h = h
    is_clear locks none free (Open atom txn) h = h
    is_clear locks none free (Sealed atom) h = none atom.0 h
    is_clear locks none free (Held node holder) h = none-some (node, holder) (sym free ∙ h.1)
