-- With the keys that a command reads and changes, and the last byte of a file that becomes longer, each body that
-- changes
-- is shown.
use Rattle.std.specs.Prelude.{◌≡◌, ◌⊎◌, ℕ, suc, ◌-◌, ◌^◌, ◌<◌, ◌≤◌, [], ◌∷◌, ◌++◌, Bool, true, false, ◌||◌, ◌==◌, cond}
use Rattle.std.specs.Prelude.{Option, Some}
use Rattle.std.proofs.Common.{arith, inl, inr, refl, sym, ap, subst, ◌∙◌}
use Rattle.std.proofs.Math.Decide.{dec_le}
use Rattle.std.proofs.Math.Nat.{lt_of_not-le}
use Rattle.std.proofs.lemmas.Bool.{or_cases}
use Rattle.r4_base.specs.Key.{key_of_rank, minor_of}
use Rattle.r4_base.specs.Value.{Value, Stat, Entry, Byte, Content, at_key}
use Rattle.r4_base.specs.Volume.{HasStat, IsObject, KeyFits, byte_rank, is_directory}
use Rattle.r4_base.specs.declared.items.Attr.{Attr}
use Rattle.r4_base.specs.declared.items.Target.{Target}
use Rattle.r4_base.proofs.Visible.{byte_back}
use Rattle.r4_content.specs.Course.{ending, of_content}
use Rattle.r4_content.specs.Edited.{Edits, Intervals, Pairs, edited, is_in, put_keys}
use Rattle.r4_content.specs.Fields.{HasBytePaths, NamesUnused}
use Rattle.r4_content.specs.Lawful.{HasBodies, IsLawful}
use Rattle.r4_content.specs.Meaning.{after, course}
use Rattle.r4_content.specs.declared.command.Command.{Command}
use Rattle.r4_content.proofs.EditLaws.{at_edited, in_append, last_put, one_key}
use Rattle.r4_content.proofs.OneObject.{numbers_of}
use Rattle.r4_content.proofs.StatsAsked.{stats_asked}
use Rattle.r4_content.proofs.Staying.{lawful_stays}
use Rattle.r4_sets.specs.Change.{HasStats, ShowsBodies}
use Rattle.r4_sets.proofs.Carried.{byte_owner}
use Rattle.r4_sets_told.specs.Touched.{IsTouchedBy}
use Rattle.r4_sets_told.proofs.Bounded.{bounded}

-- ---- what edits put is there

pub IsThere : Option Value → Type 0
IsThere o = (v : Value) × (o ≡ Some v)

put_some : (es : Pairs) (k : ℕ) (v : Value) → IsThere (last_put es k (Some v))
unfolding IsThere
put_some [] k v = (v, refl)
put_some (e ∷ es) k v = by_key (k == e.0) (put_some es k e.1) (put_some es k v)
  where
    by_key : (b : Bool) → IsThere (last_put es k (Some e.1)) → IsThere (last_put es k (Some v))
        → IsThere (last_put es k (cond b (Some e.1) (Some v)))
    by_key true one two = one
    by_key false one two = two

put_there : (es : Pairs) (k : ℕ) (o : Option Value) → is_in (put_keys es) k ≡ true → IsThere (last_put es k o)
put_there [] k o h = absurd (let f : false ≡ true = h in cc)
put_there (e ∷ es) k o h = by_key (k == e.0) (sym (ap (λ (b : Bool). b || is_in (put_keys es) k) (one_key k e.0)) ∙ h)
    (put_there es k o)
  where
    by_key : (b : Bool) → (b || is_in (put_keys es) k) ≡ true
        → (is_in (put_keys es) k ≡ true → IsThere (last_put es k o))
        → IsThere (last_put es k (cond b (Some e.1) o))
    by_key true f rest = put_some es k e.1
    by_key false f rest = rest f

zero_there : (es : Pairs) (k : ℕ) (b : Bool) (o : Option Value) → b ≡ true
    → IsThere (last_put es k (cond b (Some (Byte 0)) o))
zero_there es k true o h = put_some es k (Byte 0)
zero_there es k false o h = absurd (let f : false ≡ true = h in cc)

-- a key that edits change has a value then, or is one that they take away
pub changed_there : (e : Edits) (m : Content) (k : ℕ) → is_in (put_keys e.puts ++ (e.zeros ++ e.cuts)) k ≡ true
    → IsThere (at_key (edited e m) k) ⊎ (is_in e.cuts k ≡ true)
changed_there e m k h = elim (or_cases (is_in (put_keys e.puts) k) (is_in (e.zeros ++ e.cuts) k)
    (sym (in_append (put_keys e.puts) (e.zeros ++ e.cuts) k) ∙ h)) [
      | inl put ↦ inl (subst IsThere (sym (at_edited e m k)) (put_there e.puts k _ put))
      | inr rest ↦ elim (or_cases (is_in e.zeros k) (is_in e.cuts k) (sym (in_append e.zeros e.cuts k) ∙ rest)) [
        | inl zero ↦ inl (subst IsThere (sym (at_edited e m k)) (zero_there e.puts k (is_in e.zeros k) _ zero))
        | inr cut ↦ inr cut
      ]
    ]

-- a value at a key of a body is a byte of a file, below its size
pub body_value : (limit : ℕ) (m : Content) (o : Target) (z : ℕ) → HasBodies limit m → IsObject o → z < 2 ^ 64
    → IsThere (at_key m (byte_rank o z))
    → (b : Attr) × HasStat m o b × (z < b.size)
unfolding IsThere
body_value limit m o z bodies is lt (v, at) = of_value v at (bodies.keys (byte_rank o z) v at)
  where
    minor : minor_of (key_of_rank (byte_rank o z)) ≡ 4
    minor = ap minor_of (byte_back o z is lt) ∙ omega arith

    of_value : (v : Value) → at_key m (byte_rank o z) ≡ Some v → KeyFits m (key_of_rank (byte_rank o z)) v
        → (b : Attr) × HasStat m o b × (z < b.size)
    of_value (Stat a) at fits = let one = fits.0 in let four = minor in absurd (omega (arith, one, four))
    of_value (Entry n t) at fits = let four = minor in absurd (omega (arith, fits, four))
    of_value (Byte x) at (_, (b, stat, file)) =
        let there : HasStat m o b = subst (λ (p : Target). HasStat m p b) (byte_owner o z is lt) stat in
        (b, there, (bodies.offsets o b there file z lt).0 (x, at))

-- ---- a command

module _ (limit : ℕ) (lt : limit < 2 ^ 64) (x : Command) (n : Content) (lawful : IsLawful limit n)
    (bytes : HasBytePaths x) (unused : NamesUnused n x) (touched changed : Intervals)
    (h : IsTouchedBy limit x n touched changed) where
  pub stats : HasStats touched
  stats k on four = elim (h.others k on four) [
    | inl touches ↦ h.reads _ (stats_asked limit x n (omega (arith, lt)) (numbers_of limit n lt lawful) bytes k touches
        four)
    | inr asked ↦ h.reads _ asked
  ]

  after_bodies : HasBodies limit (after limit x n)
  after_bodies = (lawful_stays limit x n lt lawful bytes unused).1

  edits : Edits
  edits = (ending (course limit x) (of_content n)).edits

  shown_at : (o : Target) (a : Attr) (z : ℕ) → HasStat n o a → is_directory a ≡ false → 0 < a.size → z < 2 ^ 64
      → is_in (put_keys edits.puts ++ (edits.zeros ++ edits.cuts)) (byte_rank o z) ≡ true
      → (y : ℕ) × (y < a.size) × (is_in touched (byte_rank o y) ≡ true)
  unfolding edits
  shown_at o a z stat file some small on = elim (dec_le (suc z) a.size) [
    | yes below ↦ (z, below, h.within (byte_rank o z) (h.changes (byte_rank o z) on))
    | no past ↦ elim (changed_there edits n (byte_rank o z) on) [
      | inr cut ↦ absurd (past ((bounded limit lt n lawful x bytes unused).cuts o a z stat small cut))
      | inl there ↦
          let (b, now, high) = body_value limit (after limit x n) o z after_bodies stat.0 small there in
          (a.size - 1, omega (arith, some), h.last_byte o a b stat file some now (longer b past high))
    ]
  ]
    where
      longer : (b : Attr) → (suc z ≤ a.size → ⊥) → z < b.size → a.size < b.size
      longer b past high = let le = lt_of_not-le past in omega (arith, le, high)

  pub shows : ShowsBodies touched changed n
  unfolding edits
  shows o a y stat file some small on = let (z, lt_z, change) =
      h.bodies o a y stat small on in shown_at o a z stat file some lt_z change
