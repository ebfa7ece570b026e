-- What was seen of the units of a tree is what is visible of them: a command asks for no byte past its file's size.
use Rattle.std.proofs.Common.{◌≡◌, ℕ, ◌≤◌, true, Option, Some, None, refl, sym, ap, subst}
use Rattle.std.proofs.Common.{◌∙◌, arith}
use Rattle.std.proofs.Math.Decide.{dec_le}
use Rattle.std.proofs.lemmas.Option.{none-some}
use Rattle.r4_base.specs.Key.{key_of_rank, offset_of}
use Rattle.r4_base.specs.Tree.{Store}
use Rattle.r4_base.specs.Value.{Byte, Content, Entry, Stat, Value, at_key}
use Rattle.r4_base.specs.Volume.{HasFiles, HasStat, IsPadding, IsVisible, object_of, stat_rank}
use Rattle.r4_base.specs.declared.items.Attr.{Attr}
use Rattle.r4_base.specs.declared.items.Target.{Target}
use Rattle.r4_content.specs.Course.{asked, of_content}
use Rattle.r4_content.specs.Edited.{Intervals, Pairs, is_in}
use Rattle.r4_content.specs.Fields.{HasBytePaths, HasNumbers}
use Rattle.r4_content.specs.Meaning.{course, greatest_size}
use Rattle.r4_content.specs.Seen.{IsSeen, of_seen}
use Rattle.r4_content.specs.declared.command.Command.{Command}
use Rattle.r4_content.proofs.CourseLaws.{same_course}
use Rattle.r4_content.proofs.SeenLaws.{at_content, content_of, same_source}
use Rattle.r4_content.proofs.StatsAsked.{bytes_asked}
use Rattle.r4_sets_told.proofs.r4_sets.Bodies.{one_attr}

-- the same is asked for on what was seen
pub asked_alike : (c : Command) (s : Pairs) (m : Content) → IsSeen greatest_size c s m
    → asked (course greatest_size c) (of_seen s) ≡ asked (course greatest_size c) (of_content m)
asked_alike c s m saw =
    let e = same_source s saw.rises in
    ap (asked (course greatest_size c)) (sym e)
    ∙ (same_course (course greatest_size c) (content_of s) m
    (λ k on. at_content s k saw.rises
    ∙ saw.agrees k (ap (λ x. is_in (asked (course greatest_size c) x) k) (sym e) ∙ on))).1

module _ (raw n : Content) (visible : IsVisible raw n) where
  -- stat data are seen, and nothing else is
  pub stat_seen : (o : Target) (a : Attr) → HasStat raw o a → HasStat n o a
  stat_seen o a h = (h.0, (visible (stat_rank o) (Stat a)).1 (h.1, λ p. p))

  pub stat_stands : (o : Target) (a : Attr) → HasStat n o a → HasStat raw o a
  stat_stands o a h = (h.0, ((visible (stat_rank o) (Stat a)).0 h.1).0)

  pub stands : (k : ℕ) (v : Value) → at_key n k ≡ Some v → at_key raw k ≡ Some v
  stands k v at = ((visible k v).0 at).0

  pub numbers_stand : HasNumbers n → HasNumbers raw
  numbers_stand h = record {
    orderings = λ k s o at. h.orderings k s o ((visible k (Entry s o)).1 (at, λ p. p));
    sizes = λ o a at. h.sizes o a (stat_seen o a at);
  }

  -- a byte that is not seen is past its file's size
  pub past_size : (k y : ℕ) (a : Attr) → HasStat raw (object_of (key_of_rank k)) a → at_key raw k ≡ Some (Byte y)
      → at_key n k ≡ None → a.size ≤ offset_of (key_of_rank k)
  past_size k y a stat at none = elim (dec_le a.size (offset_of (key_of_rank k))) [
    | yes past ↦ past
    | no below ↦
        absurd (none-some (Byte y) (sym none ∙ (visible k (Byte y)).1 (
          at,
          λ p.
              (let (b, there, past) = p in
              below (subst (λ (c : Attr). c.size ≤ offset_of (key_of_rank k))
              (one_attr raw (object_of (key_of_rank k)) b a there stat) past)),
        )))
  ]

  -- where no padding stands, what is visible is what stands there
  pub same_there : (k : ℕ) → ((v : Value) → at_key raw k ≡ Some v → IsPadding raw (key_of_rank k) v → ⊥)
      → at_key raw k ≡ at_key n k
  same_there k clear = by (at_key raw k) refl
    where
      gone : (w : Option Value) → at_key n k ≡ w → at_key raw k ≡ None → None ≡ w
      gone None is none = refl
      gone (Some v) is none = absurd (none-some v (sym none ∙ stands k v is))

      by : (w : Option Value) → at_key raw k ≡ w → w ≡ at_key n k
      by None none = gone (at_key n k) refl none ∙ refl
      by (Some v) at = sym ((visible k v).1 (at, clear v at))

  module _ (t : Store Value) (files : HasFiles t raw) (c : Command) (s : Pairs) (numbers : HasNumbers n)
      (paths : HasBytePaths c) (saw : IsSeen greatest_size c s raw) where
    no_padding : (k : ℕ) → is_in (asked (course greatest_size c) (of_seen s)) k ≡ true → (v : Value)
        → at_key raw k ≡ Some v → IsPadding raw (key_of_rank k) v → ⊥
    no_padding k on (Stat a) at p = p
    no_padding k on (Entry m o) at p = p
    no_padding k on (Byte x) at (a, stat, past) =
        let four = (files.keys k (Byte x) at).0 in
        let asks : is_in (asked (course greatest_size c) (of_content raw)) k ≡ true =
        ap (λ (rs : Intervals). is_in rs k) (sym (asked_alike c s raw saw)) ∙ on in
        let (b, there, low) = bytes_asked greatest_size c raw (omega arith) (numbers_stand numbers) paths k asks four in
        let sizes : a.size ≡ b.size =
        ap (λ (y : Attr). y.size) (one_attr raw (object_of (key_of_rank k)) a b stat there) in
        omega (arith, sizes, past, low)

    pub seen_there : IsSeen greatest_size c s n
    seen_there = record {
      rises = saw.rises;
      agrees = λ k on. saw.agrees k on ∙ same_there k (no_padding k on);
    }
