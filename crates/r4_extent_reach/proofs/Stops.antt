-- Why there is no answer.
use Rattle.std.proofs.Common.{◌≡◌, ◌⊎◌, inl, inr, ℕ, ◌<◌, true, false, sym, ap, subst, ◌∙◌}
use Rattle.std.specs.Prelude.{nat_lt, Option, Some, None}
use Rattle.std.specs.Option.{option_map}
use Rattle.std.proofs.lemmas.Bool.{or_cases}
use Rattle.r4_base.specs.Key.{top}
use Rattle.r4_extent_commands.specs.r4_cell.Seen.{node_of}
use Rattle.r4_extent_commands.specs.r4_cell.declared.change.Root.{Root}
use Rattle.r4_content.specs.Edited.{Edits, Intervals, changed, is_in}
use Rattle.r4_content.specs.Held.{edits_of, pairs_of}
use Rattle.r4_content.specs.declared.command.Command.{Command}
use Rattle.r4_content.specs.declared.edits.Edits.{Edits as HeldEdits}
use Rattle.r4_content.specs.declared.seen.Seen.{Seen}
use Rattle.r4_extent_reaching.specs.Answers.{StopsWriting, is_met_besides}
use Rattle.r4_extent_reaching.specs.r4_extent_touching.Holding.{StopsLeft}
use Rattle.r4_extent_reaching.specs.r4_touching.r4_reach.Needs.{going_of, twig_turns}
use Rattle.r4_extent_reaching.specs.r4_touching.r4_reach.Touched.{Body, body_key, body_of, body_on, changes_on, edits_on, kind_reads, raw_changes}
use Rattle.r4_extent_reaching.specs.r4_reaching.Answers.{IsAllSeen, IsSeenIn, StopsJudging}
use Rattle.r4_extent_reaching.proofs.r4_reaching.Standing.{found_on}
use Rattle.r4_extent_reaching.proofs.r4_reaching.Touched.{seen_in}
use Rattle.r4_extent_asks.specs.r4_search.Pool.{Goes, PoolState}
use Rattle.r4_extent_asks.specs.r4_search.declared.pool.FetchFault.{FetchFault}
use Rattle.r4_extent_asks.specs.r4_search.declared.pool.FetchFault.TheVariants.{Memory}
use Rattle.r4_extent_reaching.specs.r4_touching.Touching.{StopsFor}
use Rattle.r4_extent_commands.specs.Bodies.{LiesInBody}
use Rattle.r4_extent_reach.specs.Known.{AreChanges, HasBody, HasEdits}
use Rattle.r4_extent_reach.specs.Meeting.{StopsAtKey, StopsAtLeft, StopsMeeting}
use Rattle.r4_extent_reach.specs.Standing.{shown_keys, stood}
use Rattle.r4_extent_reach.proofs.Stood.{shown_is}

pub no_memory : (p : PoolState) (root : Root) (c : Command) (e : FetchFault) → e ≡ Memory → StopsWriting p root c e
no_memory p root c e is = inr (inl (inl is))

pub judging_stops : (p : PoolState) (root : Root) (c : Command) (e : FetchFault) → StopsJudging p e
    → StopsWriting p root c e
judging_stops p root c e h = inr (inl h)

-- what was seen is seen still
seen_still : (p q : PoolState) (root : Root) (c : Command) (s : Seen) (known questions : Intervals) → Goes p q
    → IsAllSeen p root c s known questions → IsSeenIn q c (pairs_of s)
seen_still p q root c s known questions g h = record {
  rises = h.found.rises;
  found = λ k on low high. (found_on p q known (pairs_of s) g h.found).found k
      (h.looked k (ap (λ (qs : Intervals). is_in qs k) h.questions_are ∙ on) low high);
}

-- ---- where it stands

module _ (p q : PoolState) (root : Root) (c : Command) (s : Seen) (known questions : Intervals) (e : HeldEdits)
    (h : HasEdits p root c s known questions e) (change : Option Body)
    (is : change ≡ option_map (body_of (edits_of e) (pairs_of s) false) (body_key (changed (edits_of e)))) where
  its_change : change ≡ body_on c (pairs_of s) false
  its_change = is ∙ ap (λ (f : Edits). option_map (body_of f (pairs_of s) false) (body_key (changed f))) h.edits

  shown_besides : (b : Option Body) → LiesInBody b (changed (edits_on c (pairs_of s))) → (k : ℕ)
      → shown_keys b k ≡ true → (is_in (kind_reads b) k ≡ true) ⊎ (is_in (changed (edits_on c (pairs_of s))) k ≡ true)
  shown_besides None lies k on = absurd (let none = on in cc)
  shown_besides (Some b) lies k on = elim (shown_is b k on) [
    | inl tells ↦ inl tells
    | inr first ↦ inr (subst (λ (j : ℕ). is_in (changed (edits_on c (pairs_of s))) j ≡ true) (sym first) lies.among)
  ]

  pub standing_stops : (f : FetchFault) → StopsFor (shown_keys change) p f q → StopsWriting q root c f
  standing_stops f stops = inr (inr (inl (record {
    seen = pairs_of s;
    in_extents = false;
    before = p;
    saw = seen_in p root c s known questions h.all_seen;
    keys = shown_keys change;
    are = λ k low high on. inl (besides k (shown_besides (body_on c (pairs_of s) false) (h.lies false) k
        (subst (λ (o : Option Body). shown_keys o k ≡ true) its_change on)));
    stops = stops;
  })))
    where
      besides : (k : ℕ) → (is_in (kind_reads (body_on c (pairs_of s) false)) k ≡ true)
          ⊎ (is_in (changed (edits_on c (pairs_of s))) k ≡ true) → is_met_besides c (pairs_of s) false k
      besides k (inl tells) = inl tells
      besides k (inr changes) = inr (inl changes)

-- ---- the cells that are met

module _ (p q : PoolState) (root : Root) (c : Command) (s : Seen) (known questions : Intervals) (e : HeldEdits)
    (b : Option Body) (h : HasBody p root c s known questions e b) (changes : Intervals)
    (are : AreChanges b e changes) where
  counted : (k : ℕ) → k < top → is_in changes k ≡ is_in (changes_on c (pairs_of s) (stood b)) k
  counted k high = are k high ∙ (λ i. is_in (raw_changes (h.body i) (changed (h.edits i))) k)

  key_stops : (f : FetchFault) → StopsAtKey b changes p f q → StopsWriting q root c f
  key_stops f stops = inr (inr (inl (record {
    seen = pairs_of s;
    in_extents = stood b;
    before = p;
    saw = seen_in p root c s known questions h.all_seen;
    keys = stops.keys;
    are = λ k low high on. elim (stops.are k low high on) [
      | inl touched ↦ inl (besides k high (or_cases (is_in (kind_reads b) k) (is_in changes k) touched))
      | inr first ↦ inr first
    ];
    stops = stops.stops;
  })))
    where
      besides : (k : ℕ) → k < top → (is_in (kind_reads b) k ≡ true) ⊎ (is_in changes k ≡ true)
          → is_met_besides c (pairs_of s) (stood b) k
      besides k high (inl tells) = inl (ap (λ (o : Option Body). is_in (kind_reads o) k) (sym h.body) ∙ tells)
      besides k high (inr changed_there) = inr (inr (sym (counted k high) ∙ changed_there))

  left_stops : (f : FetchFault) → StopsAtLeft b (edits_of e) changes p f q → StopsWriting q root c f
  left_stops f stops = inr (inr (inr (record {
    seen = pairs_of s;
    in_extents = stood b;
    before = stops.mid;
    saw = seen_still p stops.mid root c s known questions stops.goes h.all_seen;
    twig = stops.twig;
    met = stops.met;
    changes = changes;
    are = counted;
    turns = (λ i. twig_turns (sym h.body i) (sym h.edits i) changes (node_of stops.twig)) ∙ stops.turns;
    go = (λ i. nat_lt (going_of (sym h.body i)).0 (going_of (sym h.body i)).1) ∙ stops.go;
    stops = subst (λ (o : Option Body). StopsLeft stops.twig (going_of o).0 stops.mid f q) h.body stops.stops;
  })))

  pub meeting_stops : (f : FetchFault) → StopsMeeting b (edits_of e) changes p f q → StopsWriting q root c f
  meeting_stops f (inl memory) = no_memory q root c f memory
  meeting_stops f (inr (inl key)) = key_stops f key
  meeting_stops f (inr (inr left)) = left_stops f left
