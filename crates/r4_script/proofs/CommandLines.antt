-- Commands are read as they are spelled.
use Rattle.std.proofs.Common.{◌≡◌, ℕ, ◌+◌, ◌-◌, ◌^◌, ◌<◌, ◌≤◌, Bool, true, false, not, nat_eq, List, [], ◌∷◌, ◌++◌, length, drop, codes, Some, None, Result, Ok, refl, ap, ◌∙◌, sym, subst, arith}
use Rattle.std.proofs.lemmas.List.{drop-drop, drop_at, length-append}
use Rattle.r4_content.specs.declared.command.Command.{Command}
use Rattle.r4_content.specs.declared.command.Command.TheVariants as commands
use Rattle.r4_script.specs.declared.fault.Spot.{Spot}
use Rattle.r4_script.specs.declared.word.Verb.{Verb}
use Rattle.r4_script.specs.declared.word.Verb.TheVariants.{Script, Begin, End, Commit, Create, Mkdir, Write, Fill, Truncate, Read, Stat, Names, Link, Unlink, Rmdir, Rename, Chmod, Chown, Times}
use Rattle.r4_script.specs.Command.{no_oid, path_alone, paths_alone, write_at, command_at}
use Rattle.r4_script.specs.Field.{◌>>=◌, ends_at, number_at, mode_at, text_at, path_at}
use Rattle.r4_script.specs.Grammar.{Decimal, Octal, IsPath, joined, Spells}
use Rattle.r4_script.specs.Split.{until}
use Rattle.r4_script.specs.Word.{verb_of}
use Rattle.r4_script.proofs.Fields.{bind_ok, done, ok_is, Here, field_follows, ends_past}
use Rattle.r4_script.proofs.Shapes.{IsReader, number_reader, mode_reader, path_reader, bare_again, alone_is, alone_again, pair_is, pair_again, step_is, step_again, last_is, last_again, before, text_is, text_again}
use Rattle.r4_script.proofs.Words.{word_of}

abbrev PathNames : Type 0
PathNames = List (List ℕ)

abbrev Reader : Type 0
Reader = List ℕ → ℕ → Result (ℕ × ℕ) Spot

-- ---- a path and numbers

abbrev then_end : List ℕ → ℕ → Command → Result Command Spot
then_end line j c = ends_at line j >>= λ _. done c

abbrev one : Reader → (PathNames → ℕ → Command) → List ℕ → ℕ → Result Command Spot
one N make line i = path_at line i >>= λ (p : PathNames × ℕ). N line p.1 >>= λ (n : ℕ × ℕ). then_end line n.1 (make p.0 n.0)

record One (Is : List ℕ → ℕ → Type 0) (make : PathNames → ℕ → Command) (line : List ℕ) (i : ℕ) (c : Command) : Type 0 where
  p : PathNames
  n : ℕ
  a : List ℕ
  t : List ℕ
  path : IsPath a p
  number : Is t n
  here : Here line i (joined (a ∷ t ∷ []))
  same : make p n ≡ c

one_is : (N : Reader) (Is : List ℕ → ℕ → Type 0) (reads : IsReader ℕ N Is) (make : PathNames → ℕ → Command) (line : List ℕ) (i : ℕ) (c : Command) → one N make line i ≡ Ok c → One Is make line i c
one_is N Is reads make line i c e =
    let p = step_is PathNames path_at IsPath path_reader line i (λ (p : PathNames) (j : ℕ). N line j >>= λ (n : ℕ × ℕ). then_end line n.1 (make p n.0)) c e in
    let n = step_is ℕ N Is reads line p.place (λ (n : ℕ) (j : ℕ). then_end line j (make p.value n)) c p.rest in
    let z = last_is line p.place (λ t. Is t n.value) n.place (make p.value n.value) c n.spelled n.rest in
    record {
      p = p.value;
      n = n.value;
      a = p.spelled.text;
      t = z.0.text;
      path = p.spelled.is;
      number = z.0.is;
      here = before line i (λ t. IsPath t p.value) p.place z.0.text p.spelled z.0.here;
      same = z.1;
    }

one_again : (N : Reader) (Is : List ℕ → ℕ → Type 0) (reads : IsReader ℕ N Is) (make : PathNames → ℕ → Command) (line : List ℕ) (i : ℕ) (a t : List ℕ) (p : PathNames) (n : ℕ)
    → IsPath a p → Is t n → Here line i (joined (a ∷ t ∷ [])) → one N make line i ≡ Ok (make p n)
one_again N Is reads make line i a t p n path number here =
    let next = field_follows line i a (Some t) here in
    step_again PathNames path_at IsPath path_reader line i (λ (p : PathNames) (j : ℕ). N line j >>= λ (n : ℕ × ℕ). then_end line n.1 (make p n.0)) _ a (Some t) p path here
    (step_again ℕ N Is reads line (i + length a + 1) (λ (n : ℕ) (j : ℕ). then_end line j (make p n)) _ t None n number next
    (last_again line (i + length a + 1) t (make p n) next))

abbrev two : Reader → Reader → (PathNames → ℕ → ℕ → Command) → List ℕ → ℕ → Result Command Spot
two M N make line i = path_at line i >>= λ (p : PathNames × ℕ). M line p.1 >>= λ (m : ℕ × ℕ). N line m.1 >>= λ (n : ℕ × ℕ). then_end line n.1 (make p.0 m.0 n.0)

record Two (Is Js : List ℕ → ℕ → Type 0) (make : PathNames → ℕ → ℕ → Command) (line : List ℕ) (i : ℕ) (c : Command) : Type 0 where
  p : PathNames
  m : ℕ
  n : ℕ
  a : List ℕ
  s : List ℕ
  t : List ℕ
  path : IsPath a p
  first : Is s m
  second : Js t n
  here : Here line i (joined (a ∷ s ∷ t ∷ []))
  same : make p m n ≡ c

two_is : (M N : Reader) (Is Js : List ℕ → ℕ → Type 0) (rm : IsReader ℕ M Is) (rn : IsReader ℕ N Js) (make : PathNames → ℕ → ℕ → Command) (line : List ℕ) (i : ℕ) (c : Command) → two M N make line i ≡ Ok c → Two Is Js make line i c
two_is M N Is Js rm rn make line i c e =
    let p = step_is PathNames path_at IsPath path_reader line i (λ (p : PathNames) (j : ℕ). M line j >>= λ (m : ℕ × ℕ). N line m.1 >>= λ (n : ℕ × ℕ). then_end line n.1 (make p m.0 n.0)) c e in
    let m = step_is ℕ M Is rm line p.place (λ (m : ℕ) (j : ℕ). N line j >>= λ (n : ℕ × ℕ). then_end line n.1 (make p.value m n.0)) c p.rest in
    let n = step_is ℕ N Js rn line m.place (λ (n : ℕ) (j : ℕ). then_end line j (make p.value m.value n)) c m.rest in
    let z = last_is line m.place (λ t. Js t n.value) n.place (make p.value m.value n.value) c n.spelled n.rest in
    let h = before line p.place (λ t. Is t m.value) m.place z.0.text m.spelled z.0.here in
    record {
      p = p.value;
      m = m.value;
      n = n.value;
      a = p.spelled.text;
      s = m.spelled.text;
      t = z.0.text;
      path = p.spelled.is;
      first = m.spelled.is;
      second = z.0.is;
      here = before line i (λ t. IsPath t p.value) p.place (joined (m.spelled.text ∷ z.0.text ∷ [])) p.spelled h;
      same = z.1;
    }

two_again : (M N : Reader) (Is Js : List ℕ → ℕ → Type 0) (rm : IsReader ℕ M Is) (rn : IsReader ℕ N Js) (make : PathNames → ℕ → ℕ → Command) (line : List ℕ) (i : ℕ) (a s t : List ℕ) (p : PathNames) (m n : ℕ)
    → IsPath a p → Is s m → Js t n → Here line i (joined (a ∷ s ∷ t ∷ [])) → two M N make line i ≡ Ok (make p m n)
two_again M N Is Js rm rn make line i a s t p m n path first second here =
    let next = field_follows line i a (Some (joined (s ∷ t ∷ []))) here in
    let last = field_follows line (i + length a + 1) s (Some t) next in
    step_again PathNames path_at IsPath path_reader line i (λ (p : PathNames) (j : ℕ). M line j >>= λ (m : ℕ × ℕ). N line m.1 >>= λ (n : ℕ × ℕ). then_end line n.1 (make p m.0 n.0)) _ a (Some (joined (s ∷ t ∷ []))) p path here
    (step_again ℕ M Is rm line (i + length a + 1) (λ (m : ℕ) (j : ℕ). N line j >>= λ (n : ℕ × ℕ). then_end line n.1 (make p m n.0)) _ s (Some t) m first next
    (step_again ℕ N Js rn line (i + length a + 1 + length s + 1) (λ (n : ℕ) (j : ℕ). then_end line j (make p m n)) _ t None n second last
    (last_again line (i + length a + 1 + length s + 1) t (make p m n) last)))

abbrev three : Reader → Reader → Reader → (PathNames → ℕ → ℕ → ℕ → Command) → List ℕ → ℕ → Result Command Spot
three M N O make line i = path_at line i >>= λ (p : PathNames × ℕ). M line p.1 >>= λ (m : ℕ × ℕ). N line m.1 >>= λ (n : ℕ × ℕ). O line n.1 >>= λ (o : ℕ × ℕ). then_end line o.1 (make p.0 m.0 n.0 o.0)

record Three (Is Js Ks : List ℕ → ℕ → Type 0) (make : PathNames → ℕ → ℕ → ℕ → Command) (line : List ℕ) (i : ℕ) (c : Command) : Type 0 where
  p : PathNames
  m : ℕ
  n : ℕ
  o : ℕ
  a : List ℕ
  s : List ℕ
  t : List ℕ
  u : List ℕ
  path : IsPath a p
  first : Is s m
  second : Js t n
  third : Ks u o
  here : Here line i (joined (a ∷ s ∷ t ∷ u ∷ []))
  same : make p m n o ≡ c

three_is : (M N O : Reader) (Is Js Ks : List ℕ → ℕ → Type 0) (rm : IsReader ℕ M Is) (rn : IsReader ℕ N Js) (ro : IsReader ℕ O Ks) (make : PathNames → ℕ → ℕ → ℕ → Command) (line : List ℕ) (i : ℕ) (c : Command)
    → three M N O make line i ≡ Ok c → Three Is Js Ks make line i c
three_is M N O Is Js Ks rm rn ro make line i c e =
    let p = step_is PathNames path_at IsPath path_reader line i (λ (p : PathNames) (j : ℕ). M line j >>= λ (m : ℕ × ℕ). N line m.1 >>= λ (n : ℕ × ℕ). O line n.1 >>= λ (o : ℕ × ℕ). then_end line o.1 (make p m.0 n.0 o.0)) c e in
    let m = step_is ℕ M Is rm line p.place (λ (m : ℕ) (j : ℕ). N line j >>= λ (n : ℕ × ℕ). O line n.1 >>= λ (o : ℕ × ℕ). then_end line o.1 (make p.value m n.0 o.0)) c p.rest in
    let n = step_is ℕ N Js rn line m.place (λ (n : ℕ) (j : ℕ). O line j >>= λ (o : ℕ × ℕ). then_end line o.1 (make p.value m.value n o.0)) c m.rest in
    let o = step_is ℕ O Ks ro line n.place (λ (o : ℕ) (j : ℕ). then_end line j (make p.value m.value n.value o)) c n.rest in
    let z = last_is line n.place (λ t. Ks t o.value) o.place (make p.value m.value n.value o.value) c o.spelled o.rest in
    let h = before line m.place (λ t. Js t n.value) n.place z.0.text n.spelled z.0.here in
    let g = before line p.place (λ t. Is t m.value) m.place (joined (n.spelled.text ∷ z.0.text ∷ [])) m.spelled h in
    record {
      p = p.value;
      m = m.value;
      n = n.value;
      o = o.value;
      a = p.spelled.text;
      s = m.spelled.text;
      t = n.spelled.text;
      u = z.0.text;
      path = p.spelled.is;
      first = m.spelled.is;
      second = n.spelled.is;
      third = z.0.is;
      here = before line i (λ t. IsPath t p.value) p.place (joined (m.spelled.text ∷ n.spelled.text ∷ z.0.text ∷ [])) p.spelled g;
      same = z.1;
    }

three_again : (M N O : Reader) (Is Js Ks : List ℕ → ℕ → Type 0) (rm : IsReader ℕ M Is) (rn : IsReader ℕ N Js) (ro : IsReader ℕ O Ks) (make : PathNames → ℕ → ℕ → ℕ → Command) (line : List ℕ) (i : ℕ) (a s t u : List ℕ) (p : PathNames) (m n o : ℕ)
    → IsPath a p → Is s m → Js t n → Ks u o → Here line i (joined (a ∷ s ∷ t ∷ u ∷ [])) → three M N O make line i ≡ Ok (make p m n o)
three_again M N O Is Js Ks rm rn ro make line i a s t u p m n o path first second third here =
    let next = field_follows line i a (Some (joined (s ∷ t ∷ u ∷ []))) here in
    let more = field_follows line (i + length a + 1) s (Some (joined (t ∷ u ∷ []))) next in
    let last = field_follows line (i + length a + 1 + length s + 1) t (Some u) more in
    step_again PathNames path_at IsPath path_reader line i (λ (p : PathNames) (j : ℕ). M line j >>= λ (m : ℕ × ℕ). N line m.1 >>= λ (n : ℕ × ℕ). O line n.1 >>= λ (o : ℕ × ℕ). then_end line o.1 (make p m.0 n.0 o.0)) _ a (Some (joined (s ∷ t ∷ u ∷ []))) p path here
    (step_again ℕ M Is rm line (i + length a + 1) (λ (m : ℕ) (j : ℕ). N line j >>= λ (n : ℕ × ℕ). O line n.1 >>= λ (o : ℕ × ℕ). then_end line o.1 (make p m n.0 o.0)) _ s (Some (joined (t ∷ u ∷ []))) m first next
    (step_again ℕ N Js rn line (i + length a + 1 + length s + 1) (λ (n : ℕ) (j : ℕ). O line j >>= λ (o : ℕ × ℕ). then_end line o.1 (make p m n o.0)) _ t (Some u) n second more
    (step_again ℕ O Ks ro line (i + length a + 1 + length s + 1 + length t + 1) (λ (o : ℕ) (j : ℕ). then_end line j (make p m n o)) _ u None o third last
    (last_again line (i + length a + 1 + length s + 1 + length t + 1) u (make p m n o) last))))

-- ---- what is read is spelled

-- the verb of a command
abbrev pub verb_of_command : Command → Verb
verb_of_command commands.Begin = Begin
verb_of_command commands.End = End
verb_of_command commands.Commit = Commit
verb_of_command (commands.Create a b) = Create
verb_of_command (commands.Mkdir a b) = Mkdir
verb_of_command (commands.Write a b c) = Write
verb_of_command (commands.Fill a b c d) = Fill
verb_of_command (commands.Truncate a b) = Truncate
verb_of_command (commands.Read a b c) = Read
verb_of_command (commands.Stat a) = Stat
verb_of_command (commands.Names a) = Names
verb_of_command (commands.Link a b) = Link
verb_of_command (commands.Unlink a) = Unlink
verb_of_command (commands.Rmdir a) = Rmdir
verb_of_command (commands.Rename a b) = Rename
verb_of_command (commands.Chmod a b) = Chmod
verb_of_command (commands.Chown a b c) = Chown
verb_of_command (commands.Times a b c d) = Times

-- what stands behind a word
pub record Behind (line : List ℕ) (i : ℕ) (word : List ℕ) : Type 0 where
  pub more : (rest : List ℕ) → Here line i rest → line ≡ word ++ (32 ∷ rest)
  pub none : length line < i → line ≡ word

abbrev Told : List ℕ → Verb → Command → Type 0
Told line v c = Spells line c × (verb_of_command c ≡ v)

pub command_is : (v : Verb) (line : List ℕ) (i : ℕ) (c : Command) → Behind line i (word_of v) → command_at v line i ≡ Ok c → Told line v c
unfolding command_at
command_is Script line i c f e = absurd cc
command_is Begin line i c f e =
    let b = bind_ok (ends_at line i) (λ _. done commands.Begin) c e in
    subst (Told line Begin) (ok_is commands.Begin c b.2) (f.none (ends_past line i b.0 b.1), refl)
command_is End line i c f e =
    let b = bind_ok (ends_at line i) (λ _. done commands.End) c e in
    subst (Told line End) (ok_is commands.End c b.2) (f.none (ends_past line i b.0 b.1), refl)
command_is Commit line i c f e =
    let b = bind_ok (ends_at line i) (λ _. done commands.Commit) c e in
    subst (Told line Commit) (ok_is commands.Commit c b.2) (f.none (ends_past line i b.0 b.1), refl)
command_is Create line i c f e =
    let b = bind_ok (path_alone line i) (λ (p : PathNames). done ((λ (p : PathNames). commands.Create p no_oid) p)) c e in
    let a = alone_is line i b.0 b.1 in
    subst (Told line Create) (ok_is ((λ (p : PathNames). commands.Create p no_oid) b.0) c b.2) ((refl, (a.0, (a.1.0, f.more a.0 a.1.1))), refl)
command_is Mkdir line i c f e =
    let b = bind_ok (path_alone line i) (λ (p : PathNames). done ((λ (p : PathNames). commands.Mkdir p no_oid) p)) c e in
    let a = alone_is line i b.0 b.1 in
    subst (Told line Mkdir) (ok_is ((λ (p : PathNames). commands.Mkdir p no_oid) b.0) c b.2) ((refl, (a.0, (a.1.0, f.more a.0 a.1.1))), refl)
command_is Stat line i c f e =
    let b = bind_ok (path_alone line i) (λ (p : PathNames). done (commands.Stat p)) c e in
    let a = alone_is line i b.0 b.1 in
    subst (Told line Stat) (ok_is (commands.Stat b.0) c b.2) ((a.0, (a.1.0, f.more a.0 a.1.1)), refl)
command_is Names line i c f e =
    let b = bind_ok (path_alone line i) (λ (p : PathNames). done (commands.Names p)) c e in
    let a = alone_is line i b.0 b.1 in
    subst (Told line Names) (ok_is (commands.Names b.0) c b.2) ((a.0, (a.1.0, f.more a.0 a.1.1)), refl)
command_is Unlink line i c f e =
    let b = bind_ok (path_alone line i) (λ (p : PathNames). done (commands.Unlink p)) c e in
    let a = alone_is line i b.0 b.1 in
    subst (Told line Unlink) (ok_is (commands.Unlink b.0) c b.2) ((a.0, (a.1.0, f.more a.0 a.1.1)), refl)
command_is Rmdir line i c f e =
    let b = bind_ok (path_alone line i) (λ (p : PathNames). done (commands.Rmdir p)) c e in
    let a = alone_is line i b.0 b.1 in
    subst (Told line Rmdir) (ok_is (commands.Rmdir b.0) c b.2) ((a.0, (a.1.0, f.more a.0 a.1.1)), refl)
command_is Link line i c f e =
    let b = bind_ok (paths_alone line i) (λ (p : PathNames × PathNames). done (commands.Link p.0 p.1)) c e in
    let a = pair_is line i b.0.0 b.0.1 b.1 in
    subst (Told line Link) (ok_is (commands.Link b.0.0 b.0.1) c b.2) ((a.0, (a.1.0, (a.1.1.0, a.1.1.1, f.more (joined (a.0 ∷ a.1.0 ∷ [])) a.1.1.2))), refl)
command_is Rename line i c f e =
    let b = bind_ok (paths_alone line i) (λ (p : PathNames × PathNames). done (commands.Rename p.0 p.1)) c e in
    let a = pair_is line i b.0.0 b.0.1 b.1 in
    subst (Told line Rename) (ok_is (commands.Rename b.0.0 b.0.1) c b.2) ((a.0, (a.1.0, (a.1.1.0, a.1.1.1, f.more (joined (a.0 ∷ a.1.0 ∷ [])) a.1.1.2))), refl)
command_is Truncate line i c f e =
    let o = one_is (number_at (2 ^ 64 - 1)) (Decimal (2 ^ 64 - 1)) (number_reader (2 ^ 64 - 1)) commands.Truncate line i c e in
    subst (Told line Truncate) o.same ((o.a, (o.t, (o.path, o.number, f.more (joined (o.a ∷ o.t ∷ [])) o.here))), refl)
command_is Chmod line i c f e =
    let o = one_is mode_at Octal mode_reader commands.Chmod line i c e in
    subst (Told line Chmod) o.same ((o.a, (o.t, (o.path, o.number, f.more (joined (o.a ∷ o.t ∷ [])) o.here))), refl)
command_is Read line i c f e =
    let o = two_is (number_at (2 ^ 64 - 1)) (number_at 65536) (Decimal (2 ^ 64 - 1)) (Decimal 65536) (number_reader (2 ^ 64 - 1)) (number_reader 65536) commands.Read line i c e in
    subst (Told line Read) o.same ((o.a, (o.s, (o.t, (o.path, o.first, o.second, f.more (joined (o.a ∷ o.s ∷ o.t ∷ [])) o.here)))), refl)
command_is Chown line i c f e =
    let o = two_is (number_at (2 ^ 32 - 1)) (number_at (2 ^ 32 - 1)) (Decimal (2 ^ 32 - 1)) (Decimal (2 ^ 32 - 1)) (number_reader (2 ^ 32 - 1)) (number_reader (2 ^ 32 - 1)) commands.Chown line i c e in
    subst (Told line Chown) o.same ((o.a, (o.s, (o.t, (o.path, o.first, o.second, f.more (joined (o.a ∷ o.s ∷ o.t ∷ [])) o.here)))), refl)
command_is Fill line i c f e =
    let o = three_is (number_at (2 ^ 64 - 1)) (number_at 1048576) (number_at 255) (Decimal (2 ^ 64 - 1)) (Decimal 1048576) (Decimal 255) (number_reader (2 ^ 64 - 1)) (number_reader 1048576) (number_reader 255) commands.Fill line i c e in
    subst (Told line Fill) o.same ((o.a, (o.s, (o.t, (o.u, (o.path, o.first, o.second, o.third, f.more (joined (o.a ∷ o.s ∷ o.t ∷ o.u ∷ [])) o.here))))), refl)
command_is Times line i c f e =
    let o = three_is (number_at (2 ^ 32 - 1)) (number_at (2 ^ 32 - 1)) (number_at (2 ^ 32 - 1)) (Decimal (2 ^ 32 - 1)) (Decimal (2 ^ 32 - 1)) (Decimal (2 ^ 32 - 1)) (number_reader (2 ^ 32 - 1)) (number_reader (2 ^ 32 - 1)) (number_reader (2 ^ 32 - 1)) commands.Times line i c e in
    subst (Told line Times) o.same ((o.a, (o.s, (o.t, (o.u, (o.path, o.first, o.second, o.third, f.more (joined (o.a ∷ o.s ∷ o.t ∷ o.u ∷ [])) o.here))))), refl)
command_is Write line i c f e =
    let p = step_is PathNames path_at IsPath path_reader line i (λ (p : PathNames) (j : ℕ). number_at (2 ^ 64 - 1) line j >>= λ (o : ℕ × ℕ). text_at line o.1 >>= λ (t : List ℕ). done (commands.Write p o.0 t)) c e in
    let o = step_is ℕ (number_at (2 ^ 64 - 1)) (Decimal (2 ^ 64 - 1)) (number_reader (2 ^ 64 - 1)) line p.place (λ (o : ℕ) (j : ℕ). text_at line j >>= λ (t : List ℕ). done (commands.Write p.value o t)) c p.rest in
    let b = bind_ok (text_at line o.place) (λ (t : List ℕ). done (commands.Write p.value o.value t)) c o.rest in
    let t = text_is line o.place b.0 b.1 in
    let g = before line p.place (λ t. Decimal (2 ^ 64 - 1) t o.value) o.place b.0 o.spelled t.0 in
    let h = before line i (λ t. IsPath t p.value) p.place (joined (o.spelled.text ∷ b.0 ∷ [])) p.spelled g in
    subst (Told line Write) (ok_is (commands.Write p.value o.value b.0) c b.2)
    ((t.1, (p.spelled.text, (o.spelled.text, (p.spelled.is, o.spelled.is, f.more (joined (p.spelled.text ∷ o.spelled.text ∷ b.0 ∷ [])) h)))), refl)

-- ---- what is spelled is read

abbrev pub is_plain : List ℕ → Bool
is_plain [] = false
is_plain (b ∷ bytes) = not (nat_eq b 35)

-- the line is read as the command
pub record Readable (line : List ℕ) (c : Command) : Type 0 where
  pub plain : is_plain line ≡ true
  pub word : verb_of (until 32 line) ≡ Some (verb_of_command c)
  pub read : command_at (verb_of_command c) line (length (until 32 line) + 1) ≡ Ok c

here_behind : (word rest : List ℕ) → Here (word ++ (32 ∷ rest)) (length word + 1) rest
here_behind word rest = record {
  within = omega (arith, length-append word (32 ∷ rest));
  rest = sym (drop-drop 1 (length word) (word ++ (32 ∷ rest))) ∙ ap (drop 1) (drop_at word (32 ∷ rest) (length word) refl);
}

write_again : (line : List ℕ) (i : ℕ) (a o text : List ℕ) (p : PathNames) (offset : ℕ) → IsPath a p → Decimal (2 ^ 64 - 1) o offset → length text ≤ 4096 → Here line i (joined (a ∷ o ∷ text ∷ [])) → write_at line i ≡ Ok (commands.Write p offset text)
write_again line i a o text p offset path number few here =
    let next = field_follows line i a (Some (joined (o ∷ text ∷ []))) here in
    let last = field_follows line (i + length a + 1) o (Some text) next in
    step_again PathNames path_at IsPath path_reader line i (λ (p : PathNames) (j : ℕ). number_at (2 ^ 64 - 1) line j >>= λ (o : ℕ × ℕ). text_at line o.1 >>= λ (t : List ℕ). done (commands.Write p o.0 t)) _ a (Some (joined (o ∷ text ∷ []))) p path here
    (step_again ℕ (number_at (2 ^ 64 - 1)) (Decimal (2 ^ 64 - 1)) (number_reader (2 ^ 64 - 1)) line (i + length a + 1) (λ (o : ℕ) (j : ℕ). text_at line j >>= λ (t : List ℕ). done (commands.Write p o t)) _ o (Some text) offset number next
    (ap (λ (r : Result (List ℕ) Spot). r >>= λ (t : List ℕ). done (commands.Write p offset t)) (text_again line (i + length a + 1 + length o + 1) text last few)))

pub command_again : (c : Command) (line : List ℕ) → Spells line c → Readable line c
unfolding command_at
command_again commands.Begin line h = subst (λ (l : List ℕ). Readable l commands.Begin) (sym h) (record { plain = refl; word = refl; read = bare_again (codes "begin") 6 commands.Begin refl })
command_again commands.End line h = subst (λ (l : List ℕ). Readable l commands.End) (sym h) (record { plain = refl; word = refl; read = bare_again (codes "end") 4 commands.End refl })
command_again commands.Commit line h = subst (λ (l : List ℕ). Readable l commands.Commit) (sym h) (record { plain = refl; word = refl; read = bare_again (codes "commit") 7 commands.Commit refl })
command_again (commands.Create p oid) line h = subst (λ (l : List ℕ). Readable l (commands.Create p oid)) (sym h.1.1.1) (record { plain = refl; word = refl; read = ap (λ (r : Result PathNames Spot). r >>= λ (p : PathNames). done (commands.Create p no_oid)) (alone_again (codes "create" ++ (32 ∷ h.1.0)) 7 h.1.0 p h.1.1.0 (here_behind (codes "create") h.1.0)) ∙ ap (λ (n : ℕ). done (commands.Create p (record { 0 = n }))) (sym h.0) })
command_again (commands.Mkdir p oid) line h = subst (λ (l : List ℕ). Readable l (commands.Mkdir p oid)) (sym h.1.1.1) (record { plain = refl; word = refl; read = ap (λ (r : Result PathNames Spot). r >>= λ (p : PathNames). done (commands.Mkdir p no_oid)) (alone_again (codes "mkdir" ++ (32 ∷ h.1.0)) 6 h.1.0 p h.1.1.0 (here_behind (codes "mkdir") h.1.0)) ∙ ap (λ (n : ℕ). done (commands.Mkdir p (record { 0 = n }))) (sym h.0) })
command_again (commands.Stat p) line h = subst (λ (l : List ℕ). Readable l (commands.Stat p)) (sym h.1.1) (record { plain = refl; word = refl; read = ap (λ (r : Result PathNames Spot). r >>= λ (p : PathNames). done (commands.Stat p)) (alone_again (codes "stat" ++ (32 ∷ h.0)) 5 h.0 p h.1.0 (here_behind (codes "stat") h.0)) })
command_again (commands.Names p) line h = subst (λ (l : List ℕ). Readable l (commands.Names p)) (sym h.1.1) (record { plain = refl; word = refl; read = ap (λ (r : Result PathNames Spot). r >>= λ (p : PathNames). done (commands.Names p)) (alone_again (codes "names" ++ (32 ∷ h.0)) 6 h.0 p h.1.0 (here_behind (codes "names") h.0)) })
command_again (commands.Unlink p) line h = subst (λ (l : List ℕ). Readable l (commands.Unlink p)) (sym h.1.1) (record { plain = refl; word = refl; read = ap (λ (r : Result PathNames Spot). r >>= λ (p : PathNames). done (commands.Unlink p)) (alone_again (codes "unlink" ++ (32 ∷ h.0)) 7 h.0 p h.1.0 (here_behind (codes "unlink") h.0)) })
command_again (commands.Rmdir p) line h = subst (λ (l : List ℕ). Readable l (commands.Rmdir p)) (sym h.1.1) (record { plain = refl; word = refl; read = ap (λ (r : Result PathNames Spot). r >>= λ (p : PathNames). done (commands.Rmdir p)) (alone_again (codes "rmdir" ++ (32 ∷ h.0)) 6 h.0 p h.1.0 (here_behind (codes "rmdir") h.0)) })
command_again (commands.Link p q) line h = subst (λ (l : List ℕ). Readable l (commands.Link p q)) (sym h.1.1.2) (record { plain = refl; word = refl; read = ap (λ (r : Result (PathNames × PathNames) Spot). r >>= λ (p : PathNames × PathNames). done (commands.Link p.0 p.1)) (pair_again (codes "link" ++ (32 ∷ joined (h.0 ∷ h.1.0 ∷ []))) 5 h.0 h.1.0 p q h.1.1.0 h.1.1.1 (here_behind (codes "link") (joined (h.0 ∷ h.1.0 ∷ [])))) })
command_again (commands.Rename p q) line h = subst (λ (l : List ℕ). Readable l (commands.Rename p q)) (sym h.1.1.2) (record { plain = refl; word = refl; read = ap (λ (r : Result (PathNames × PathNames) Spot). r >>= λ (p : PathNames × PathNames). done (commands.Rename p.0 p.1)) (pair_again (codes "rename" ++ (32 ∷ joined (h.0 ∷ h.1.0 ∷ []))) 7 h.0 h.1.0 p q h.1.1.0 h.1.1.1 (here_behind (codes "rename") (joined (h.0 ∷ h.1.0 ∷ [])))) })
command_again (commands.Truncate p n) line h = subst (λ (l : List ℕ). Readable l (commands.Truncate p n)) (sym h.1.1.2) (record { plain = refl; word = refl; read = one_again (number_at (2 ^ 64 - 1)) (Decimal (2 ^ 64 - 1)) (number_reader (2 ^ 64 - 1)) commands.Truncate (codes "truncate" ++ (32 ∷ joined (h.0 ∷ h.1.0 ∷ []))) 9 h.0 h.1.0 p n h.1.1.0 h.1.1.1 (here_behind (codes "truncate") (joined (h.0 ∷ h.1.0 ∷ []))) })
command_again (commands.Chmod p n) line h = subst (λ (l : List ℕ). Readable l (commands.Chmod p n)) (sym h.1.1.2) (record { plain = refl; word = refl; read = one_again mode_at Octal mode_reader commands.Chmod (codes "chmod" ++ (32 ∷ joined (h.0 ∷ h.1.0 ∷ []))) 6 h.0 h.1.0 p n h.1.1.0 h.1.1.1 (here_behind (codes "chmod") (joined (h.0 ∷ h.1.0 ∷ []))) })
command_again (commands.Read p m n) line h = subst (λ (l : List ℕ). Readable l (commands.Read p m n)) (sym h.1.1.1.3) (record { plain = refl; word = refl; read = two_again (number_at (2 ^ 64 - 1)) (number_at 65536) (Decimal (2 ^ 64 - 1)) (Decimal 65536) (number_reader (2 ^ 64 - 1)) (number_reader 65536) commands.Read (codes "read" ++ (32 ∷ joined (h.0 ∷ h.1.0 ∷ h.1.1.0 ∷ []))) 5 h.0 h.1.0 h.1.1.0 p m n h.1.1.1.0 h.1.1.1.1 h.1.1.1.2 (here_behind (codes "read") (joined (h.0 ∷ h.1.0 ∷ h.1.1.0 ∷ []))) })
command_again (commands.Chown p m n) line h = subst (λ (l : List ℕ). Readable l (commands.Chown p m n)) (sym h.1.1.1.3) (record { plain = refl; word = refl; read = two_again (number_at (2 ^ 32 - 1)) (number_at (2 ^ 32 - 1)) (Decimal (2 ^ 32 - 1)) (Decimal (2 ^ 32 - 1)) (number_reader (2 ^ 32 - 1)) (number_reader (2 ^ 32 - 1)) commands.Chown (codes "chown" ++ (32 ∷ joined (h.0 ∷ h.1.0 ∷ h.1.1.0 ∷ []))) 6 h.0 h.1.0 h.1.1.0 p m n h.1.1.1.0 h.1.1.1.1 h.1.1.1.2 (here_behind (codes "chown") (joined (h.0 ∷ h.1.0 ∷ h.1.1.0 ∷ []))) })
command_again (commands.Fill p m n o) line h = subst (λ (l : List ℕ). Readable l (commands.Fill p m n o)) (sym h.1.1.1.1.4) (record { plain = refl; word = refl; read = three_again (number_at (2 ^ 64 - 1)) (number_at 1048576) (number_at 255) (Decimal (2 ^ 64 - 1)) (Decimal 1048576) (Decimal 255) (number_reader (2 ^ 64 - 1)) (number_reader 1048576) (number_reader 255) commands.Fill (codes "fill" ++ (32 ∷ joined (h.0 ∷ h.1.0 ∷ h.1.1.0 ∷ h.1.1.1.0 ∷ []))) 5 h.0 h.1.0 h.1.1.0 h.1.1.1.0 p m n o h.1.1.1.1.0 h.1.1.1.1.1 h.1.1.1.1.2 h.1.1.1.1.3 (here_behind (codes "fill") (joined (h.0 ∷ h.1.0 ∷ h.1.1.0 ∷ h.1.1.1.0 ∷ []))) })
command_again (commands.Times p m n o) line h = subst (λ (l : List ℕ). Readable l (commands.Times p m n o)) (sym h.1.1.1.1.4) (record { plain = refl; word = refl; read = three_again (number_at (2 ^ 32 - 1)) (number_at (2 ^ 32 - 1)) (number_at (2 ^ 32 - 1)) (Decimal (2 ^ 32 - 1)) (Decimal (2 ^ 32 - 1)) (Decimal (2 ^ 32 - 1)) (number_reader (2 ^ 32 - 1)) (number_reader (2 ^ 32 - 1)) (number_reader (2 ^ 32 - 1)) commands.Times (codes "times" ++ (32 ∷ joined (h.0 ∷ h.1.0 ∷ h.1.1.0 ∷ h.1.1.1.0 ∷ []))) 6 h.0 h.1.0 h.1.1.0 h.1.1.1.0 p m n o h.1.1.1.1.0 h.1.1.1.1.1 h.1.1.1.1.2 h.1.1.1.1.3 (here_behind (codes "times") (joined (h.0 ∷ h.1.0 ∷ h.1.1.0 ∷ h.1.1.1.0 ∷ []))) })
command_again (commands.Write p offset text) line h = subst (λ (l : List ℕ). Readable l (commands.Write p offset text)) (sym h.1.1.1.2) (record { plain = refl; word = refl; read = write_again (codes "write" ++ (32 ∷ joined (h.1.0 ∷ h.1.1.0 ∷ text ∷ []))) 6 h.1.0 h.1.1.0 text p offset h.1.1.1.0 h.1.1.1.1 h.0 (here_behind (codes "write") (joined (h.1.0 ∷ h.1.1.0 ∷ text ∷ []))) })
