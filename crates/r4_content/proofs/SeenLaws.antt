-- A list that rises by key is a content: it is asked alike, and edited alike.
use Rattle.std.specs.Prelude.{None, List, ◌≡◌, true, ℕ, zero, suc, ◌+◌, ◌-◌, [], ◌∷◌, Bool, not, cond}
use Rattle.std.proofs.Common.{refl, sym, ap, ◌∙◌}
use Rattle.std.specs.List.{filter}
use Rattle.std.specs.Ordering.{nat_cmp}
use Rattle.std.specs.FinMap.{find, put, from_sorted, get-from_sorted, entries, entries-from_sorted, entries-insert, insert, retain_keys, same_entries_map, nat_cmp-IsAntisymmetric}
use Rattle.std.specs.FinMap.Entries.{is_sorted-where_key, find-where_key, is_sorted-put}
use Rattle.std.proofs.lemmas.Cmp.{nat_cmp_total}
use Rattle.r4_base.specs.Value.{Value, Byte, Content, at_key}
use Rattle.r4_content.specs.Edited.{Pairs, Intervals, Edits, is_between, is_in, pairs_between, cut_all, zero_from, zero_all, put_all, edited}
use Rattle.r4_content.specs.declared.command.Command.{Command}
use Rattle.r4_content.specs.Course.{of_content, ending, asked}
use Rattle.r4_content.specs.Meaning.{course, after, replies, reply}
use Rattle.r4_content.specs.Seen.{of_seen, pairs_in, Rises, IsSeen}
use Rattle.r4_content.specs.Listed.{list_after, list_replies, list_cut, list_zero_from, list_zero, list_put, list_edited}
use Rattle.r4_content.proofs.EditLaws.{at_retain, same_content}
use Rattle.r4_content.proofs.CourseLaws.{same_course}

unfoldable pub content_of : Pairs → Content
content_of s = from_sorted s

pub at_content : (s : Pairs) (k : ℕ) → Rises s → at_key (content_of s) k ≡ find nat_cmp k s
unfolding content_of
at_content s k r = get-from_sorted nat_cmp s k r

kept : (p : ℕ → Bool) (s : Pairs) → Pairs
kept p s = filter (λ e. p e.0) s

kept_rises : (p : ℕ → Bool) (s : Pairs) → Rises s → Rises (kept p s)
unfolding kept
kept_rises p s r = is_sorted-where_key nat_cmp p s r

retain_list : (p : ℕ → Bool) (s : Pairs) → Rises s → retain_keys (content_of s) p ≡ content_of (kept p s)
unfolding kept
retain_list p s r = same_content _ _ (λ k.
    at_retain (content_of s) p k ∙ ap (λ v. cond (p k) v None) (at_content s k r)
    ∙ sym (at_content (kept p s) k (kept_rises p s r) ∙ find-where_key nat_cmp p k (λ x e. ap p (sym (nat_cmp-IsAntisymmetric k x e))) s))

insert_list : (k : ℕ) (v : Value) (s : Pairs) → Rises s → insert (content_of s) k v ≡ content_of (put nat_cmp k v s)
unfolding content_of
insert_list k v s r = same_entries_map _ _ (entries-insert nat_cmp_total (from_sorted s) k v ∙ ap (put nat_cmp k v) (entries-from_sorted nat_cmp s r) ∙ sym (entries-from_sorted nat_cmp _ (is_sorted-put nat_cmp nat_cmp_total k v s r)))

put_rises : (k : ℕ) (v : Value) (s : Pairs) → Rises s → Rises (put nat_cmp k v s)
put_rises k v s r = is_sorted-put nat_cmp nat_cmp_total k v s r

pairs_list : (s : Pairs) (from to : ℕ) → Rises s → pairs_between (content_of s) from to ≡ pairs_in s from to
unfolding content_of kept
pairs_list s from to r = ap entries (retain_list (is_between from to) s r) ∙ entries-from_sorted nat_cmp _ (kept_rises (is_between from to) s r)

pub same_source : (s : Pairs) → Rises s → of_content (content_of s) ≡ of_seen s
same_source s r = λ i. record { value = λ k. at_content s k r i; pairs = λ from to. pairs_list s from to r i }

-- a command ends on what was seen as it ends on the content
pub seen : (limit : ℕ) (c : Command) (s : Pairs) (m : Content) → IsSeen limit c s m → ending (course limit c) (of_seen s) ≡ ending (course limit c) (of_content m)
seen limit c s m h =
    let e = same_source s h.rises in
    ap (ending (course limit c)) (sym e) ∙ (same_course (course limit c) (content_of s) m (λ k i. at_content s k h.rises ∙ h.agrees k (ap (λ t. is_in (asked (course limit c) t) k) (sym e) ∙ i))).0

cut_list : (rs : Intervals) (s : Pairs) → Rises s → (cut_all rs (content_of s) ≡ content_of (list_cut rs s)) × Rises (list_cut rs s)
unfolding kept
cut_list [] s r = (refl, r)
cut_list (x ∷ rs) s r =
    let p = λ (k : ℕ). not (is_between x.0 x.1 k) in
    let rest = cut_list rs (kept p s) (kept_rises p s r) in
    (ap (cut_all rs) (retain_list p s r) ∙ rest.0, rest.1)

zero_from_list : (from n : ℕ) (s : Pairs) → Rises s → (zero_from from n (content_of s) ≡ content_of (list_zero_from from n s)) × Rises (list_zero_from from n s)
zero_from_list from zero s r = (refl, r)
zero_from_list from (suc n) s r =
    let rest = zero_from_list (from + 1) n s r in
    (ap (λ m. insert m from (Byte 0)) rest.0 ∙ insert_list from (Byte 0) _ rest.1, put_rises from (Byte 0) _ rest.1)

zero_list : (rs : Intervals) (s : Pairs) → Rises s → (zero_all rs (content_of s) ≡ content_of (list_zero rs s)) × Rises (list_zero rs s)
zero_list [] s r = (refl, r)
zero_list (x ∷ rs) s r =
    let first = zero_from_list x.0 (x.1 - x.0) s r in
    let rest = zero_list rs _ first.1 in
    (ap (zero_all rs) first.0 ∙ rest.0, rest.1)

put_list : (es : Pairs) (s : Pairs) → Rises s → (put_all es (content_of s) ≡ content_of (list_put es s)) × Rises (list_put es s)
put_list [] s r = (refl, r)
put_list (e ∷ es) s r =
    let rest = put_list es _ (put_rises e.0 e.1 s r) in
    (ap (put_all es) (insert_list e.0 e.1 s r) ∙ rest.0, rest.1)

-- edits of a list are edits of its content
pub edited_list : (e : Edits) (s : Pairs) → Rises s → (edited e (content_of s) ≡ content_of (list_edited e s)) × Rises (list_edited e s)
edited_list e s r =
    let a = cut_list e.cuts s r in
    let b = zero_list e.zeros _ a.1 in
    let c = put_list e.puts _ b.1 in
    (ap (λ m. put_all e.puts (zero_all e.zeros m)) a.0 ∙ ap (put_all e.puts) b.0 ∙ c.0, c.1)

-- so a command does to a content what it does to its list
pub list_command : (limit : ℕ) (c : Command) (s : Pairs) → Rises s
    → (after limit c (content_of s) ≡ content_of (list_after limit c s)) × (reply limit c (content_of s) ≡ (ending (course limit c) (of_seen s)).reply) × Rises (list_after limit c s)
list_command limit c s r =
    let e = ap (ending (course limit c)) (same_source s r) in
    let made = edited_list (ending (course limit c) (of_seen s)).edits s r in
    (ap (λ t. edited t.edits (content_of s)) e ∙ made.0, ap (λ t. t.reply) e, made.1)

-- and so do commands one after another
pub list_commands : (limit : ℕ) (cs : List Command) (s : Pairs) → Rises s → replies limit cs (content_of s) ≡ list_replies limit cs s
list_commands limit [] s r = refl
list_commands limit (c ∷ cs) s r =
    let one = list_command limit c s r in
    ap (λ x. x ∷ replies limit cs (after limit c (content_of s))) one.1 ∙ ap (λ t. (ending (course limit c) (of_seen s)).reply ∷ replies limit cs t) one.0
    ∙ ap (λ x. (ending (course limit c) (of_seen s)).reply ∷ x) (list_commands limit cs (list_after limit c s) one.2)

-- what agrees where the command reads the content is what it has seen
pub seen_where_read : (limit : ℕ) (c : Command) (s : Pairs) (m : Content) → Rises s
    → ((k : ℕ) → is_in (asked (course limit c) (of_content m)) k ≡ true → find nat_cmp k s ≡ at_key m k) → IsSeen limit c s m
seen_where_read limit c s m r h =
    let e = same_source s r in
    let same = (same_course (course limit c) m (content_of s) (λ k i. sym (at_content s k r ∙ h k i))).1 in
    record { rises = r; agrees = λ k i. h k (ap (λ t. is_in t k) (same ∙ ap (asked (course limit c)) e) ∙ i) }
