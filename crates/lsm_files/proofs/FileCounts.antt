-- The blocks that a step of a scan of a table in its file loads.
use Rattle.std.proofs.Common.{◌≡◌, ℕ, zero, suc, ◌+◌, ◌-◌, ◌<◌, ◌≤◌, Bool, true, false, List}
use Rattle.std.proofs.Common.{[], ◌∷◌}
use Rattle.std.proofs.Common.{refl, sym, ap, subst, ◌∙◌, arith}
use Rattle.std.specs.Prelude.{None, Result, Ok, Err}
use Rattle.sst_entries.specs.declared.error.Error.{Error}
use Rattle.sst_entries.specs.Entry.{Entry}
use Rattle.sst_blocks.specs.Opened.{with_load}
use Rattle.sst_blocks.specs.declared.block_type.BlockType.TheVariants.{Data}
use Rattle.lsm_readers.specs.Scan.{Scan, block_result, lend_first, lend_next, lifted_result, loads}
use Rattle.lsm_readers.specs.Scan.{loads_from, loads_of, scan_loads_behind, unlend, unless_left}
use Rattle.lsm_files.specs.declared.error.FileError.{FileError}
use Rattle.lsm_files.specs.declared.error.FileError.TheVariants.{Table}
use Rattle.lsm_files.specs.Scan.{LoadsUpTo, in_file}

-- From s a step has come to u, with the loads of the blocks between.
pub record Counted (s u : Scan) : Type 0 where
  pub count : ℕ
  pub counts : u.opened ≡ loads count s.opened
  pub needs : count + loads_of u ≡ loads_of s

-- no block was loaded yet
pub none_counted : (s : Scan) → Counted s s
none_counted s = record { count = 0; counts = refl; needs = omega arith }

needs_first : (u : Scan) (n : ℕ) → u.entries ≡ [] → u.blocks ≡ suc n
    → loads_of u ≡ suc (scan_loads_behind (block_result u.body u.position)
    (λ next. loads_from u.body next n))
unfolding loads_from
needs_first u n none some = rw (none, some) refl

needs_next : (u : Scan) (n : ℕ) (es : List Entry) (next : ℕ) → u.entries ≡ [] → u.blocks ≡ suc n
    → block_result u.body u.position ≡ Ok (es, next)
    → loads_of u ≡ suc (unless_left es (loads_from u.body next n))
needs_next u n es next none some returned =
    needs_first u n none some ∙ ap (λ (r : Result (List Entry × ℕ) Error). suc
    (scan_loads_behind r (λ next. loads_from u.body next n))) returned

-- the next block was loaded
pub next_counted : (s u t v : Scan) → Counted s u → u.entries ≡ [] → t ≡ unlend u → 0 < t.blocks
    → block_result t.body t.position ≡ Ok (v.entries, v.position)
    → v ≡ record t {
      lent = None;
      entries = v.entries;
      position = v.position;
      blocks = t.blocks - 1;
      opened = with_load Data t.opened;
    } → Counted s v
next_counted s u t v counted none is some read next =
    let n = t.blocks - 1 in
    let same : loads_of t ≡ loads_of u = ap (λ (w : Scan). loads_of w) is in
    let more = needs_next t n v.entries v.position (ap (λ (w : Scan). w.entries) is ∙ none)
    (omega (arith, some)) read in
    let left : loads_of v ≡ unless_left v.entries (loads_from t.body v.position n) =
    ap (λ (w : Scan). loads_of w) next in
    record {
      count = suc counted.count;
      counts = ap (λ (w : Scan). w.opened) next
          ∙ ap (with_load Data) (ap (λ (w : Scan). w.opened) is ∙ counted.counts);
      needs = omega (arith, counted.needs, same, more, left);
    }

-- where an entry comes, no block is needed
record Comes (u : Scan) (p : Result Bool FileError × Scan) : Type 0 where
  opened : (p.1).opened ≡ u.opened
  needs : p.0 ≡ Ok true → loads_of u ≡ 0

comes_by : (u : Scan) (es : List Entry) → u.entries ≡ es → Comes u (in_file (lend_next u es))
comes_by u [] none = record {
  opened = refl;
  needs = λ is. let wrong : Ok false ≡ Ok true = is in absurd cc;
}
comes_by u (e ∷ es) some = first (lifted_result u.global_seqno e)
  where
    first : (one : Result Entry Error) → Comes u (in_file (lend_first u es one))
    first (Ok x) = record {
      opened = refl;
      needs = λ is. ap (λ (xs : List Entry). unless_left xs (loads_from u.body u.position u.blocks))
          some;
    }
    first (Err f) = record {
      opened = refl;
      needs = λ is. let wrong : Err (Table f) ≡ Ok true = is in absurd cc;
    }

abbrev pub arrived : Bool → Result Bool FileError
arrived b = Ok b

all_loaded : (s u t : Scan) → Counted s u → t.opened ≡ u.opened → loads_of u ≡ 0
    → t.opened ≡ loads (loads_of s) s.opened
all_loaded s u t counted same none =
    let all : counted.count ≡ loads_of s = omega (arith, counted.needs, none) in
    same ∙ counted.counts ∙ ap (λ (n : ℕ). loads n s.opened) all

-- an entry came
pub entry_counted : (s u t : Scan) (more : Bool) → Counted s u
    → (Ok more, t) ≡ in_file (lend_next u u.entries) → more ≡ true
    → t.opened ≡ loads (loads_of s) s.opened
entry_counted s u t more counted is some =
    let comes = subst (Comes u) (sym is) (comes_by u u.entries refl) in
    all_loaded s u t counted comes.opened
    (comes.needs (ap arrived some))

no_loads : (u : Scan) → u.entries ≡ [] → u.blocks ≡ 0 → loads_of u ≡ 0
unfolding loads_from
no_loads u none last = rw (none, last) refl

not_some : (n : ℕ) → (0 < n → ⊥) → n ≡ 0
not_some zero never = refl
not_some (suc n) never = absurd (never (omega arith))

-- nothing came
pub over_counted : (s u t : Scan) → Counted s u → u.entries ≡ [] → t ≡ unlend u
    → (0 < t.blocks → ⊥) → t.opened ≡ loads (loads_of s) s.opened
over_counted s u t counted none is last =
    let blocks : u.blocks ≡ 0 = ap (λ (w : Scan). w.blocks) (sym is) ∙ not_some t.blocks last in
    all_loaded s u t counted (ap (λ (w : Scan). w.opened) is) (no_loads u none blocks)

-- the next entry has an error
pub stopped_counted : (s u t : Scan) (f : FileError) → Counted s u
    → (Err f, t) ≡ in_file (lend_next u u.entries) → LoadsUpTo s t
stopped_counted s u t f counted is =
    let comes = subst (Comes u) (sym is) (comes_by u u.entries refl) in
    record {
      count = counted.count;
      counts = comes.opened ∙ counted.counts;
      most = omega (arith, counted.needs);
    }

-- the next block has an error, or could not be read
pub block_counted : (s u t v : Scan) → Counted s u → u.entries ≡ [] → t ≡ unlend u → 0 < t.blocks
    → v.opened ≡ with_load Data t.opened → LoadsUpTo s v
block_counted s u t v counted none is some opened =
    let blocks : u.blocks ≡ suc (t.blocks - 1) =
    ap (λ (w : Scan). w.blocks) (sym is) ∙ omega (arith, some) in
    let more = needs_first u (t.blocks - 1) none blocks in
    record {
      count = suc counted.count;
      counts = opened ∙ ap (with_load Data) (ap (λ (w : Scan). w.opened) is ∙ counted.counts);
      most = omega (arith, counted.needs, more);
    }

-- it is not so that no block is needed then
pub block_needed : (s u t : Scan) → Counted s u → u.entries ≡ [] → t ≡ unlend u → 0 < t.blocks
    → loads_of s ≡ 0 → ⊥
block_needed s u t counted none is some calm =
    let blocks : u.blocks ≡ suc (t.blocks - 1) =
    ap (λ (w : Scan). w.blocks) (sym is) ∙ omega (arith, some) in
    let more = needs_first u (t.blocks - 1) none blocks in
    omega (arith, counted.needs, more, calm)
