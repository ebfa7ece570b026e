-- The items of a node that are written anew, one after the other.
use Rattle.std.proofs.Common.{◌≡◌, ◌≢◌, ℕ, suc, ◌+◌, ◌<◌, Bool, ◌&&◌, eqb, cond, List, length, set}
use Rattle.std.proofs.Common.{Some, None, refl, sym, ap, ◌∙◌, subst, arith, map}
use Rattle.std.specs.Prelude.{slice_get, nat_lt}
use Rattle.std.specs.Option.{option_map}
use Rattle.std.proofs.lemmas.Bool.{eqb-true}
use Rattle.std.proofs.lemmas.Option.{same_Some}
use Rattle.r4_base.proofs.Choices.{never_both}
use Rattle.r4_base.specs.Extents.{pointer_of, units_of}
use Rattle.r4_base.specs.Lending.{written}
use Rattle.r4_base.specs.Node.{Item, count_of, is_empty_branch, item_at, item_flags_at, items_of, key_at, level_of}
use Rattle.r4_base.specs.Node.{node_fault, offset_at, plugin_at, start_of}
use Rattle.r4_base.specs.declared.node.NodeFault.TheVariants.{Empty}
use Rattle.r4_node40.specs.Laid.{IsLaid, IsNode, KeepsFree, SameHead, room_of, span_at}
use Rattle.r4_node40.proofs.Accepted.{accepted, good}
use Rattle.r4_node40.proofs.Bodies.{body_lent}
use Rattle.r4_node40.proofs.Kept.{node_written}
use Rattle.r4_node40.proofs.Laid.{get-items_of}
use Rattle.r4_flush.specs.Anew.{IsBlockAnew, IsItemAnew, IsWrittenAnew, unit_anew}
use Rattle.r4_flush.proofs.Made.{AreMadeTo, made_all, made_set}

-- ---- one item

body_is : (b : List ℕ) (i : ℕ) → (item_at (count_of b) b i).body ≡ span_at b i i
unfolding item_at
body_is b i = refl

item_is : (b ws : List ℕ) (i : ℕ) → ◌≡◌ {A = Item} (record { key = key_at b i; plugin = plugin_at b i; body = ws })
    (record (item_at (count_of b) b i) { body = ws })
unfolding item_at
item_is b ws i = refl

module _ (f : ℕ → ℕ) where
  pub item_written : (b ws body : List ℕ) (i : ℕ) (it : Item) → IsLaid b → i < count_of b
      → slice_get (items_of b) i ≡ Some it → body ≡ span_at b i i → length ws ≡ length body
      → (it.plugin ≡ 3 → pointer_of ws ≡ option_map f (pointer_of body))
      → (it.plugin ≡ 5 → units_of ws ≡ map (unit_anew f) (units_of body))
      → (it.plugin ≢ 3 → it.plugin ≢ 5 → ws ≡ body) → IsWrittenAnew f b i (written b (offset_at b i) ws)
  item_written b ws body i it laid lt at same_body long pointer extent other =
      let x : Item = item_at (count_of b) b i in
      let same : it ≡ x = same_Some it x (sym at ∙ get-items_of b (count_of b) i refl lt) in
      let plugin : it.plugin ≡ x.plugin = ap (λ (y : Item). y.plugin) same in
      let old : body ≡ x.body = same_body ∙ sym (body_is b i) in
      record {
        body = ws;
        written = body_lent b ws i laid lt (long ∙ ap length same_body);
        anew = record {
          key = refl;
          plugin = refl;
          long = long ∙ ap length old;
          pointer = λ e. pointer (plugin ∙ eqb-true x.plugin 3 e) ∙ ap (λ (s : List ℕ). option_map f (pointer_of s)) old;
          extent = λ e. extent (plugin ∙ eqb-true x.plugin 5 e) ∙ ap (λ (s : List ℕ). map (unit_anew f) (units_of s)) old;
          other = λ e g. other (λ is. never_both (eqb x.plugin 3) (ap (λ (n : ℕ). eqb n 3) (sym plugin ∙ is)) e)
              (λ is. never_both (eqb x.plugin 5) (ap (λ (n : ℕ). eqb n 5) (sym plugin ∙ is)) g) ∙ old;
        };
      }

  -- ---- the first n items

  pub record IsSoFar (n : ℕ) (b c : List ℕ) : Type 0 where
    pub node : IsNode c
    pub items : AreMadeTo (IsItemAnew f) n (items_of b) (items_of c)
    pub count : count_of c ≡ count_of b
    pub head : SameHead b c
    pub room : room_of c ≡ room_of b
    pub start : start_of c ≡ start_of b
    pub flags : (k : ℕ) → k < count_of b → item_flags_at c k ≡ item_flags_at b k
    pub free : KeepsFree b c

  pub none_so_far : (b : List ℕ) → length b ≡ 4096 → node_fault b ≡ None → IsSoFar 0 b b
  none_so_far b whole none = record {
    node = (good b whole none).0;
    items = refl;
    count = refl;
    head = record { plugin = refl; magic = refl; mkfs_id = refl; flush_id = refl; flags = refl; level = refl; pad = refl };
    room = refl;
    start = refl;
    flags = λ k lt. refl;
    free = λ p from to. refl;
  }

  heads : (a b c : List ℕ) → SameHead a b → SameHead b c → SameHead a c
  heads a b c x y = record {
    plugin = y.plugin ∙ x.plugin;
    magic = y.magic ∙ x.magic;
    mkfs_id = y.mkfs_id ∙ x.mkfs_id;
    flush_id = y.flush_id ∙ x.flush_id;
    flags = y.flags ∙ x.flags;
    level = y.level ∙ x.level;
    pad = y.pad ∙ x.pad;
  }

  pub next_so_far : (n : ℕ) (b c d : List ℕ) → IsSoFar n b c → n < count_of b → IsWrittenAnew f c n d
      → IsSoFar (n + 1) b d
  next_so_far n b c d s lt w =
      let low : n < count_of c = omega (arith, lt, s.count) in
      let x : Item = item_at (count_of c) c n in
      let y : Item = record x { body = w.body } in
      let one : n + 1 ≡ suc n = omega arith in
      let items : items_of d ≡ set (items_of c) n y =
      w.written.items ∙ ap (set (items_of c) n) (item_is c w.body n) in
      record {
        node = node_written c w.body d n s.node low w.written;
        items = subst (λ (k : ℕ). AreMadeTo (IsItemAnew f) k (items_of b) (items_of d)) (sym one)
            (subst (AreMadeTo (IsItemAnew f) (suc n) (items_of b)) (sym items)
            (made_set (IsItemAnew f) n (items_of b) (items_of c) x y s.items
            (get-items_of c (count_of c) n refl low) w.anew));
        count = w.written.count ∙ s.count;
        head = heads b c d s.head w.written.head;
        room = w.written.room ∙ s.room;
        start = w.written.start ∙ s.start;
        flags = λ k below. w.written.flags k (omega (arith, below, s.count)) ∙ s.flags k below;
        free = λ p from to. w.written.free p from to
            ∙ s.free p (omega (arith, from, w.written.start)) (omega (arith, to, w.written.count));
      }

  -- and it is a node that is accepted
  pub accepted_so_far : (n : ℕ) (b c : List ℕ) → length b ≡ 4096 → node_fault b ≡ None → IsSoFar n b c
      → node_fault c ≡ None
  accepted_so_far n b c whole none s =
      let some = (good b whole none).1 in
      let same : is_empty_branch c ≡ is_empty_branch b =
      ap (λ (l : ℕ). nat_lt 1 l && eqb (count_of c) 0) s.head.level
      ∙ ap (λ (k : ℕ). nat_lt 1 (level_of b) && eqb k 0) s.count in
      accepted c s.node ∙ ap (λ (t : Bool). cond t (Some Empty) None) (same ∙ some)

  pub all_so_far : (n : ℕ) (b c : List ℕ) → length b ≡ 4096 → node_fault b ≡ None
      → n ≡ length (items_of b) → IsSoFar n b c
      → IsBlockAnew f b c
  all_so_far n b c whole none all s = record {
    whole = s.node.laid.whole ∙ sym whole;
    node = accepted_so_far n b c whole none s ∙ sym none;
    items = made_all (IsItemAnew f) (items_of b) (items_of c)
        (subst (λ (k : ℕ). AreMadeTo (IsItemAnew f) k (items_of b) (items_of c)) all s.items);
    count = s.count;
    head = s.head;
    room = s.room;
    start = s.start;
    flags = s.flags;
    free = s.free;
  }
