-- Small traces that are legal, by computation.
use Rattle.std.proofs.Common.{◌≡◌, ◌⊎◌, inl, inr, ℕ, ◌+◌, ◌*◌, ◌^◌, ◌<◌, ◌≤◌, true, List, reverse, Some, refl, ap, subst, arith}
use Rattle.r4_base.proofs.FreshTree.{found}
use Rattle.r4_base.specs.Key.{rank, least}
use Rattle.r4_base.specs.Name.{bad_byte, key_of_name, name_fault, packed, r5_from}
use Rattle.r4_base.specs.Value.{Stat}
use Rattle.r4_base.specs.Volume.{HasStat, empty_volume, stat_rank}
use Rattle.r4_base.specs.declared.items.Attr.{Attr}
use Rattle.r4_base.specs.declared.items.Target.{Target}
use Rattle.r4_base.specs.declared.things.Oid.{Oid}
use Rattle.r4_content.specs.Fields.{IsUnused}
use Rattle.r4_content.specs.Listed.{list_replies}
use Rattle.r4_content.specs.Locality.{commands}
use Rattle.r4_content.specs.Meaning.{greatest_size}
use Rattle.r4_content.specs.Ways.{to_ends, to_entry, to_file, to_free, to_object, to_parent}
use Rattle.r4_trace.specs.declared.entry.Entry.{Entry}
use Rattle.r4_trace.specs.Order.{IsOrdered}
use Rattle.r4_trace.specs.Job.{Asked, Within, Single, Answered, txn_in, commands_of, place, IsAnswered, AllClosed}
use Rattle.r4_trace.specs.Ids.{HasNewIds, makers}
use Rattle.r4_trace.specs.Legal.{IsLegal, IsLegalSoFar}
use Rattle.r4_trace_rows.specs.Examples.{apart, apart_job, captured, captured_job, failing, failing_job, failing_work, failing_work_job, fresh, inside, inside_job, two_files, usual, usual_job, waiting, waiting_job, with_files}
use Rattle.r4_trace_rows.proofs.Checked.{all_ended, each_ended, is_ordered, ordered_true}
use Rattle.r4_trace.proofs.Places.{place_open}
use Rattle.r4_trace_rows.proofs.Replied.{asked, has_new_ids, new_ids_true, no_ids, on_fresh, on_list, replied, root_listed}

-- where every transaction ended, none is left
closed : (job : Asked) (trace : List Entry) → IsOrdered trace → all_ended trace ≡ true → AllClosed job trace
closed job trace legal ended s t is =
    let opn = place_open (commands_of job s) trace t s legal (ap txn_in is) in
    opn.1 (each_ended trace t s ended opn.0)

-- the ids from 65536 on are free on a fresh volume
root_id : (l o i : ℕ) → o < 2 ^ 64 → i < 2 ^ 64
    → (l * 16 + 1) * 2 ^ 192 + (o * 2 ^ 128 + (i * 2 ^ 64 + 0)) ≡ 657 * 2 ^ 192 + 42 * 2 ^ 64 → i ≡ 42
root_id l o i lo li e = omega (arith, lo, li, e)

only_root : (o : Target) (a : Attr) → HasStat empty_volume o a → o.oid.0 ≡ 42
unfolding rank least
only_root o a h = root_id o.locality o.ordering o.oid.0 h.0.1 h.0.2 (found (stat_rank o) (Stat a) h.1).0

unused : (y : ℕ) → 65536 ≤ y → IsUnused empty_volume (record { 0 = y })
unused y from o a h same =
    let is = only_root o a h in
    let e = ap (λ (x : Oid). x.0) same in
    omega (arith, is, e, from)

-- a trace on a fresh volume, from what computes of it
pub ids_on_fresh : (job : Asked) (trace : List Entry) → has_new_ids 65536 (makers job) trace ≡ true
    → HasNewIds (Some fresh) (Some job) trace
ids_on_fresh job trace ids = new_ids_true fresh job trace unused ids

pub so_far_on_fresh : (job : Asked) (trace : List Entry) → is_ordered trace ≡ true
    → list_replies greatest_size (asked trace) root_listed ≡ replied trace
    → has_new_ids 65536 (makers job) trace ≡ true → IsAnswered job trace
    → IsLegalSoFar (commands greatest_size) (Some fresh) (Some job) trace
so_far_on_fresh job trace order replies ids answers = record {
  order = ordered_true trace order;
  replies = on_fresh greatest_size trace replies;
  ids = ids_on_fresh job trace ids;
  answers = answers;
}

on_fresh_volume : (job : Asked) (trace : List Entry) → is_ordered trace ≡ true
    → list_replies greatest_size (asked trace) root_listed ≡ replied trace
    → has_new_ids 65536 (makers job) trace ≡ true → all_ended trace ≡ true → IsAnswered job trace
    → IsLegal (commands greatest_size) (Some fresh) (Some job) trace
on_fresh_volume job trace order replies ids ended answers = record {
  so_far = so_far_on_fresh job trace order replies ids answers;
  closed = closed job trace (ordered_true trace order) ended;
}

-- ---- the traces

-- what an entry answers, and what the older ones do
also : {A B : Type 0} → A → B → A × B
also a b = (a, b)

waiting_answers : IsAnswered waiting_job (reverse waiting)
waiting_answers =
    also (refl, refl) (also tt (also tt (also (1, (refl, inl refl)) (also (refl, (tt, refl), refl) (
    also (2, (refl, inl refl)) (also (refl, (tt, refl), refl) (also (refl, (tt, refl), refl) (also tt (
    also (refl, (tt, refl), refl) (also (refl, tt) (also (refl, tt) tt)))))))))))

pub waiting_legal : IsLegal (commands greatest_size) (Some fresh) (Some waiting_job) (reverse waiting)
unfolding rank key_of_name name_fault bad_byte packed r5_from to_ends to_entry to_file to_free to_object to_parent
waiting_legal = on_fresh_volume waiting_job (reverse waiting) refl refl refl refl waiting_answers

captured_answers : IsAnswered captured_job (reverse captured)
captured_answers =
    also tt (also tt (also (refl, refl) (also tt (also (2, refl) (also (refl, (tt, refl), refl) (
    also (refl, tt) (also tt (also (2, refl) (also (refl, (tt, refl), refl) (also tt (also (refl, tt) (
    also (1, refl) (also (refl, (tt, refl), refl) (also (refl, tt) tt))))))))))))))

pub captured_legal : IsLegal (commands greatest_size) (Some fresh) (Some captured_job) (reverse captured)
unfolding rank key_of_name name_fault bad_byte packed r5_from to_ends to_entry to_file to_free to_object to_parent
captured_legal = on_fresh_volume captured_job (reverse captured) refl refl refl refl captured_answers

failing_answers : IsAnswered failing_job (reverse failing)
failing_answers =
    also (refl, refl) (also (refl, refl) (also tt (also tt (also (1, refl) (
    also (refl, (tt, refl), refl) (also (refl, tt) tt))))))

pub failing_legal : IsLegal (commands greatest_size) (Some fresh) (Some failing_job) (reverse failing)
unfolding rank key_of_name name_fault bad_byte packed r5_from to_ends to_entry to_file to_free to_object to_parent
failing_legal = on_fresh_volume failing_job (reverse failing) refl refl refl refl failing_answers

usual_answers : IsAnswered usual_job (reverse usual)
usual_answers =
    also (refl, refl) (also tt (also tt (also (1, refl) (also (refl, (tt, refl), refl) (also tt (
    also (refl, tt) (also (1, refl) (also (refl, (tt, refl), refl) (also tt (also (refl, tt) (
    also (1, refl) (also (refl, (tt, refl), refl) (also (refl, tt) tt)))))))))))))

pub usual_legal : IsLegal (commands greatest_size) (Some fresh) (Some usual_job) (reverse usual)
unfolding rank key_of_name name_fault bad_byte packed r5_from to_ends to_entry to_file to_free to_object to_parent
usual_legal = on_fresh_volume usual_job (reverse usual) refl refl refl refl usual_answers

inside_answers : IsAnswered inside_job (reverse inside)
inside_answers =
    also tt (also tt (also (1, (refl, inr refl)) (also (refl, (tt, refl), refl) (also tt (
    also (2, refl) (also (refl, (tt, refl), refl) (also (refl, tt) (also (refl, tt) tt))))))))

pub inside_legal : IsLegal (commands greatest_size) (Some fresh) (Some inside_job) (reverse inside)
unfolding rank key_of_name name_fault bad_byte packed r5_from to_ends to_entry to_file to_free to_object to_parent
inside_legal = on_fresh_volume inside_job (reverse inside) refl refl refl refl inside_answers

apart_answers : IsAnswered apart_job (reverse apart)
apart_answers =
    also (refl, refl) (also tt (also tt (also (refl, refl) (also tt (also tt (also (2, refl) (
    also (refl, (tt, refl), refl) (also (refl, tt) (also (1, refl) (also (refl, (tt, refl), refl) (
    also (refl, tt) tt)))))))))))

pub apart_legal : IsLegal (commands greatest_size) (Some with_files) (Some apart_job) (reverse apart)
unfolding rank key_of_name name_fault bad_byte packed r5_from to_ends to_entry to_file to_free to_object to_parent
apart_legal =
    let order = ordered_true (reverse apart) refl in
    record {
      so_far = record {
        order = order;
        replies = on_list greatest_size two_files tt (reverse apart) refl;
        ids = no_ids with_files apart_job (reverse apart) refl;
        answers = apart_answers;
      };
      closed = closed apart_job (reverse apart) order refl;
    }

failing_work_answers : IsAnswered failing_work_job (reverse failing_work)
failing_work_answers =
    also (refl, refl) (also (refl, refl) (also tt (also (refl, tt) (also (refl, tt) (also tt (
    also (1, refl) (also (refl, (tt, refl), refl) (also (refl, tt) tt))))))))

single_not_answered : (s : ℕ) (n t : ℕ) (w : Within) → w ≡ Single n → w ≡ Answered t → ⊥
single_not_answered s n t w is h = cc (is, h)

failing_work_closed : AllClosed failing_work_job (reverse failing_work)
failing_work_closed s t is =
    let order = ordered_true (reverse failing_work) refl in
    let opn = place_open (commands_of failing_work_job s) (reverse failing_work) t s order (ap txn_in is) in
    let at : (n : ℕ) → s ≡ n
    → (place (commands_of failing_work_job n) (reverse failing_work) n).within ≡ Answered t =
    λ n same. subst
    (λ (x : ℕ). (place (commands_of failing_work_job x) (reverse failing_work) x).within
    ≡ Answered t) same is in
    by_case (reverse failing_work) t s opn.0 opn.1 (λ same. single_not_answered 3 3 t _ refl (at 3 same))
    (λ same. single_not_answered 2 2 t _ refl (at 2 same))
  where
    by_case : (l : List Entry) (t s : ℕ)
        → (((t ≡ 3) × (s ≡ 3)) ⊎ (((t ≡ 2) × (s ≡ 2)) ⊎ (((t ≡ 1) × (s ≡ 1)) ⊎ ⊥))) → (((t ≡ 1) ⊎ ⊥) → ⊥)
        → (s ≡ 3 → ⊥) → (s ≡ 2 → ⊥) → ⊥
    by_case l t s (inl h) un three two = three h.1
    by_case l t s (inr (inl h)) un three two = two h.1
    by_case l t s (inr (inr (inl h))) un three two = un (inl h.0)
    by_case l t s (inr (inr (inr h))) un three two = h

pub failing_work_legal : IsLegal (commands greatest_size) (Some fresh) (Some failing_work_job) (reverse failing_work)
unfolding rank key_of_name name_fault bad_byte packed r5_from to_ends to_entry to_file to_free to_object to_parent
failing_work_legal =
    let order = ordered_true (reverse failing_work) refl in
    record {
      so_far =
          record {
            order = order;
            replies = on_fresh greatest_size
                (reverse failing_work) refl;
            ids =
                new_ids_true fresh failing_work_job (reverse failing_work) unused refl;
            answers = failing_work_answers;
          };
      closed = failing_work_closed;
    }
