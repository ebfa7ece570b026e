-- The shapes of commands are read as they are spelled.
use Rattle.std.proofs.Common.{◌≡◌, ℕ, ◌+◌, ◌≤◌, Bool, cond, nat_lt, List, [], ◌∷◌, ◌++◌, length, drop, Option, Some, None, Result, Ok, ap, ◌∙◌, sym, subst, arith}
use Rattle.std.proofs.lemmas.Bool.{le-ltb, ltb-false}
use Rattle.r4_content.specs.declared.command.Command.{Command}
use Rattle.r4_script.specs.declared.fault.Spot.{Spot}
use Rattle.r4_script.specs.declared.fault.What.{What}
use Rattle.r4_script.specs.declared.fault.What.TheVariants as whats
use Rattle.r4_script.specs.Command.{bare, path_alone, paths_alone}
use Rattle.r4_script.specs.Field.{◌>>=◌, at_place, or_at, field_at, ends_at, number_of, number_at, mode_at, text_at, path_of, path_at}
use Rattle.r4_script.specs.Grammar.{Decimal, Octal, IsPath, joined}
use Rattle.r4_script.proofs.Fields.{bind_ok, done, ok_is, guard_ok, or_at_ok, NoBlank, Here, with_tail, Follows, field_again, field_follows, field_is, ends_again, ends_is}
use Rattle.r4_script.proofs.Numbers.{no_blank_digits, number_is, number_again, path_is, path_again, no_blank_path}

-- a field of this kind stands there
pub record Spelled (line : List ℕ) (i : ℕ) (Is : List ℕ → Type 0) (j : ℕ) : Type 0 where
  pub text : List ℕ
  pub is : Is text
  pub tail : Option (List ℕ)
  pub here : Here line i (with_tail text tail)
  pub follows : Follows line j tail

-- a reader of fields of a kind reads just those
pub record IsReader (X : Type 0) (reader : List ℕ → ℕ → Result (X × ℕ) Spot) (Is : List ℕ → X → Type 0) : Type 0 where
  pub reads : (line : List ℕ) (i : ℕ) (x : X) (j : ℕ) → reader line i ≡ Ok (x, j) → Spelled line i (λ t. Is t x) j
  pub again : (line : List ℕ) (i : ℕ) (t : List ℕ) (tail : Option (List ℕ)) (x : X) → Is t x → Here line i (with_tail t tail) → reader line i ≡ Ok (x, i + length t + 1)

-- a reader that looks at one field
abbrev fielded : {X : Type 0} → What → (List ℕ → Option X) → List ℕ → ℕ → Result (X × ℕ) Spot
fielded what value line i = do
  f ← field_at line i
  x ← or_at i what (value f.0)
  Ok (x, f.1)

follows_from : (line : List ℕ) (i : ℕ) (f : List ℕ) (j : ℕ) (t : Option (List ℕ)) → j ≡ i + length f + 1 → Here line i (with_tail f t) → Follows line j t
follows_from line i f j t goes here = subst (λ (k : ℕ). Follows line k t) (sym goes) (field_follows line i f t here)

fielded_reader : (X : Type 0) (what : What) (value : List ℕ → Option X) (Is : List ℕ → X → Type 0)
    → ((t : List ℕ) (x : X) → Is t x → NoBlank t) → ((t : List ℕ) (x : X) → value t ≡ Some x → Is t x) → ((t : List ℕ) (x : X) → Is t x → value t ≡ Some x)
    → IsReader X (fielded what value) Is
fielded_reader X what value Is plain sound complete = record {
  reads = λ line i x j e.
      let b = bind_ok (field_at line i) (λ (f : List ℕ × ℕ). or_at i what (value f.0) >>= λ (x : X). done (x, f.1)) (x, j) e in
      let c = bind_ok (or_at i what (value b.0.0)) (λ (x : X). done (x, b.0.1)) (x, j) b.2 in
      let same = ok_is (c.0, b.0.1) (x, j) c.2 in
      let x-is : c.0 ≡ x = ap (λ (p : X × ℕ). p.0) same in
      let j-is : b.0.1 ≡ j = ap (λ (p : X × ℕ). p.1) same in
      let f = field_is line i b.0.0 b.0.1 b.1 in
      record {
        text = b.0.0;
        is = sound b.0.0 x (or_at_ok i what (value b.0.0) c.0 c.1 ∙ ap Some x-is);
        tail = f.tail;
        here = f.here;
        follows = follows_from line i b.0.0 j f.tail (sym j-is ∙ f.goes) f.here;
      };
  again = λ line i t tail x is here.
      ap (λ (r : Result (List ℕ × ℕ) Spot). r >>= λ (f : List ℕ × ℕ). or_at i what (value f.0) >>= λ (x : X). done (x, f.1)) (field_again line i t tail here (plain t x is))
      ∙ ap (λ (o : Option X). or_at i what o >>= λ (x : X). done (x, i + length t + 1)) (complete t x is);
}

pub number_reader : (most : ℕ) → IsReader ℕ (number_at most) (Decimal most)
unfolding number_at
number_reader most = fielded_reader ℕ whats.Number (number_of 10 20 most) (Decimal most) (λ t n h. no_blank_digits 10 0 t n h.value) (number_is 10 20 most) (number_again 10 20 most)

pub mode_reader : IsReader ℕ mode_at Octal
unfolding mode_at
mode_reader = fielded_reader ℕ whats.Number (number_of 8 4 4095) Octal (λ t n h. no_blank_digits 8 0 t n h.value) (number_is 8 4 4095) (number_again 8 4 4095)

pub path_reader : IsReader (List (List ℕ)) path_at IsPath
unfolding path_at
path_reader = fielded_reader (List (List ℕ)) whats.Path path_of IsPath no_blank_path path_is path_again

-- ---- what stands behind a field

-- nothing
pub last_here : (line : List ℕ) (i : ℕ) (t : List ℕ) (j : ℕ) (tail : Option (List ℕ)) (u : Unit {0}) → Here line i (with_tail t tail) → Follows line j tail → ends_at line j ≡ Ok u → Here line i t
last_here line i t j tail u here follows e = subst (λ (o : Option (List ℕ)). Here line i (with_tail t o)) (ends_is line j tail u e follows) here

-- more
pub more_here : (line : List ℕ) (i : ℕ) (t : List ℕ) (j : ℕ) (tail : Option (List ℕ)) (more : List ℕ) → Here line i (with_tail t tail) → Follows line j tail → Here line j more → Here line i (t ++ (32 ∷ more))
more_here line i t j None more here follows next = absurd (omega (arith, follows, next.within))
more_here line i t j (Some rest) more here follows next = subst (λ (l : List ℕ). Here line i (t ++ (32 ∷ l))) (sym follows.rest ∙ next.rest) here

-- ---- shapes

-- nothing
pub bare_again : (line : List ℕ) (i : ℕ) (c : Command) → Follows line i None → bare c line i ≡ Ok c
bare_again line i c h = ap (λ (r : Result (Unit {0}) Spot). r >>= λ _. done c) (ends_again line i h)

-- a path
pub alone_is : (line : List ℕ) (i : ℕ) (p : List (List ℕ)) → path_alone line i ≡ Ok p → (a : List ℕ) × (IsPath a p × Here line i a)
alone_is line i p e =
    let b = bind_ok (path_at line i) (λ (q : List (List ℕ) × ℕ). ends_at line q.1 >>= λ _. done q.0) p e in
    let c = bind_ok (ends_at line b.0.1) (λ _. done b.0.0) p b.2 in
    let s = path_reader.reads line i b.0.0 b.0.1 b.1 in
    (s.text, (subst (IsPath s.text) (ok_is b.0.0 p c.2) s.is, last_here line i s.text b.0.1 s.tail c.0 s.here s.follows c.1))

pub alone_again : (line : List ℕ) (i : ℕ) (a : List ℕ) (p : List (List ℕ)) → IsPath a p → Here line i a → path_alone line i ≡ Ok p
alone_again line i a p is here =
    ap (λ (r : Result (List (List ℕ) × ℕ) Spot). r >>= λ (q : List (List ℕ) × ℕ). ends_at line q.1 >>= λ _. done q.0) (path_reader.again line i a None p is here)
    ∙ ap (λ (r : Result (Unit {0}) Spot). r >>= λ _. done p) (ends_again line (i + length a + 1) (field_follows line i a None here))

-- two paths
pub pair_is : (line : List ℕ) (i : ℕ) (p q : List (List ℕ)) → paths_alone line i ≡ Ok (p, q) → (a : List ℕ) × ((b : List ℕ) × (IsPath a p × IsPath b q × Here line i (joined (a ∷ b ∷ []))))
pair_is line i p q e =
    let a = bind_ok (path_at line i) (λ (x : List (List ℕ) × ℕ). path_at line x.1 >>= λ (y : List (List ℕ) × ℕ). ends_at line y.1 >>= λ _. done (x.0, y.0)) (p, q) e in
    let b = bind_ok (path_at line a.0.1) (λ (y : List (List ℕ) × ℕ). ends_at line y.1 >>= λ _. done (a.0.0, y.0)) (p, q) a.2 in
    let c = bind_ok (ends_at line b.0.1) (λ _. done (a.0.0, b.0.0)) (p, q) b.2 in
    let same = ok_is (a.0.0, b.0.0) (p, q) c.2 in
    let s = path_reader.reads line i a.0.0 a.0.1 a.1 in
    let t = path_reader.reads line a.0.1 b.0.0 b.0.1 b.1 in
    let second = last_here line a.0.1 t.text b.0.1 t.tail c.0 t.here t.follows c.1 in (
      s.text,
      (
        t.text,
        (
          subst (IsPath s.text) (ap (λ (z : List (List ℕ) × List (List ℕ)). z.0) same) s.is,
          subst (IsPath t.text) (ap (λ (z : List (List ℕ) × List (List ℕ)). z.1) same) t.is,
          more_here line i s.text a.0.1 s.tail t.text s.here s.follows second,
        ),
      ),
    )

pub pair_again : (line : List ℕ) (i : ℕ) (a b : List ℕ) (p q : List (List ℕ)) → IsPath a p → IsPath b q → Here line i (joined (a ∷ b ∷ [])) → paths_alone line i ≡ Ok (p, q)
pair_again line i a b p q ia ib here =
    let next = field_follows line i a (Some b) here in
    ap (λ (r : Result (List (List ℕ) × ℕ) Spot). r >>= λ (x : List (List ℕ) × ℕ). path_at line x.1 >>= λ (y : List (List ℕ) × ℕ). ends_at line y.1 >>= λ _. done (x.0, y.0)) (path_reader.again line i a (Some b) p ia here)
    ∙ ap (λ (r : Result (List (List ℕ) × ℕ) Spot). r >>= λ (y : List (List ℕ) × ℕ). ends_at line y.1 >>= λ _. done (p, y.0)) (path_reader.again line (i + length a + 1) b None q ib next)
    ∙ ap (λ (r : Result (Unit {0}) Spot). r >>= λ _. done (p, q)) (ends_again line (i + length a + 1 + length b + 1) (field_follows line (i + length a + 1) b None next))

-- ---- one field after the other

-- what was read, what is read behind it, and that it stands there
pub record Step (X : Type 0) (line : List ℕ) (i : ℕ) (Is : List ℕ → X → Type 0) (next : X → ℕ → Result Command Spot) (c : Command) : Type 0 where
  pub value : X
  pub place : ℕ
  pub spelled : Spelled line i (λ t. Is t value) place
  pub rest : next value place ≡ Ok c

pub step_is : (X : Type 0) (reader : List ℕ → ℕ → Result (X × ℕ) Spot) (Is : List ℕ → X → Type 0) → IsReader X reader Is
    → (line : List ℕ) (i : ℕ) (next : X → ℕ → Result Command Spot) (c : Command) → (reader line i >>= λ (x : X × ℕ). next x.0 x.1) ≡ Ok c → Step X line i Is next c
step_is X reader Is is line i next c e =
    let b = bind_ok (reader line i) (λ (x : X × ℕ). next x.0 x.1) c e in
    record { value = b.0.0; place = b.0.1; spelled = is.reads line i b.0.0 b.0.1 b.1; rest = b.2 }

pub step_again : (X : Type 0) (reader : List ℕ → ℕ → Result (X × ℕ) Spot) (Is : List ℕ → X → Type 0) → IsReader X reader Is
    → (line : List ℕ) (i : ℕ) (next : X → ℕ → Result Command Spot) (r : Result Command Spot) (t : List ℕ) (tail : Option (List ℕ)) (x : X)
    → Is t x → Here line i (with_tail t tail) → next x (i + length t + 1) ≡ r → (reader line i >>= λ (x : X × ℕ). next x.0 x.1) ≡ r
step_again X reader Is is line i next r t tail x h here e = ap (λ (s : Result (X × ℕ) Spot). s >>= λ (x : X × ℕ). next x.0 x.1) (is.again line i t tail x h here) ∙ e

-- a last field
pub record Last (line : List ℕ) (i : ℕ) (Is : List ℕ → Type 0) : Type 0 where
  pub text : List ℕ
  pub is : Is text
  pub here : Here line i text

pub last_is : (line : List ℕ) (i : ℕ) (Is : List ℕ → Type 0) (j : ℕ) (d c : Command) → Spelled line i Is j → (ends_at line j >>= λ _. done d) ≡ Ok c → Last line i Is × (d ≡ c)
last_is line i Is j d c s e =
    let b = bind_ok (ends_at line j) (λ _. done d) c e in
    (record { text = s.text; is = s.is; here = last_here line i s.text j s.tail b.0 s.here s.follows b.1 }, ok_is d c b.2)

pub last_again : (line : List ℕ) (i : ℕ) (t : List ℕ) (d : Command) → Here line i t → (ends_at line (i + length t + 1) >>= λ _. done d) ≡ Ok d
last_again line i t d here = ap (λ (r : Result (Unit {0}) Spot). r >>= λ _. done d) (ends_again line (i + length t + 1) (field_follows line i t None here))

-- a field before others
pub before : (line : List ℕ) (i : ℕ) (Is : List ℕ → Type 0) (j : ℕ) (more : List ℕ) → (s : Spelled line i Is j) → Here line j more → Here line i (s.text ++ (32 ∷ more))
before line i Is j more s next = more_here line i s.text j s.tail more s.here s.follows next

-- the text behind a path and a number
pub text_is : (line : List ℕ) (i : ℕ) (t : List ℕ) → text_at line i ≡ Ok t → Here line i t × (length t ≤ 4096)
unfolding text_at
text_is line i t e =
    let a = guard_ok (nat_lt (length line) i) _ (cond (nat_lt 4096 (length (drop i line))) (at_place (i + 4096) whats.Text) (Ok (drop i line))) t e in
    let b = guard_ok (nat_lt 4096 (length (drop i line))) _ (done (drop i line)) t a.1 in
    let same : drop i line ≡ t = ok_is (drop i line) t b.1 in
    (record { within = ltb-false (length line) i a.0; rest = same }, omega (arith, ltb-false 4096 (length (drop i line)) b.0, ap length same))

pub text_again : (line : List ℕ) (i : ℕ) (t : List ℕ) → Here line i t → length t ≤ 4096 → text_at line i ≡ Ok t
unfolding text_at
text_again line i t here few =
    ap (λ (v : Bool). cond v (at_place (length line) whats.Field) (cond (nat_lt 4096 (length (drop i line))) (at_place (i + 4096) whats.Text) (Ok (drop i line)))) (le-ltb (length line) i here.within)
    ∙ ap (λ (l : List ℕ). cond (nat_lt 4096 (length l)) (at_place (i + 4096) whats.Text) (done l)) here.rest
    ∙ ap (λ (v : Bool). cond v (at_place (i + 4096) whats.Text) (done t)) (le-ltb 4096 (length t) few)
