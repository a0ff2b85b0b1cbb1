-- What a recovered table's parts keep.
use Rattle.std.proofs.Common.{◌≡◌, ℕ, ◌+◌, ◌-◌, ◌^◌, ◌<◌, ◌≤◌, Bool, true, false, cond, ltb, List}
use Rattle.std.proofs.Common.{refl, sym, ap, subst, ◌∙◌, arith}
use Rattle.std.specs.Prelude.{length, Option, Some, None, Result, Ok, Err}
use Rattle.std.proofs.lemmas.Bool.{ltb-false}
use Rattle.sst_entries.specs.declared.error.Error.{Error}
use Rattle.sst_entries.specs.declared.error.Error.TheVariants.{GlobalSeqNoTooLarge}
use Rattle.std.specs.Option.{option_or}
use Rattle.std.specs.Result.{IsErrAnd}
use Rattle.sst_entries.specs.Error.{Fails, FaultsFirst, is_memory, unless}
use Rattle.sst_blocks.specs.declared.block_type.BlockType.TheVariants.{Meta}
use Rattle.sst_blocks.specs.Block.{place_fault}
use Rattle.sst_blocks.specs.Handle.{Handle}
use Rattle.sst_blocks.proofs.LoadLemmas.{unless_ok}
use Rattle.sst_blocks.specs.filter.Filter.{BloomFilter}
use Rattle.sst_blocks.specs.Sections.{body_of, trailer_fault}
use Rattle.lsm_readers.specs.declared.regions.ParsedRegions.{ParsedRegions}
use Rattle.lsm_readers.specs.point.Meta.{Facts, meta_result}
use Rattle.lsm_readers.specs.point.Parts.{Parts, Pinned, early_fault, early_in, filter_result}
use Rattle.lsm_readers.specs.point.Parts.{facts_fitting, parts_result, pinned_filter, pinned_result}
use Rattle.lsm_readers.specs.point.Parts.{places_result, range_in, key_range_result, recovered_result}
use Rattle.lsm_readers.specs.point.Parts.{tops_result}
use Rattle.lsm_readers.specs.point.IndexKinds.{PinnedIndex, index_result}
use Rattle.lsm_readers.specs.point.Table.{IsRecovered, IsOpen, OpenTable}
use Rattle.lsm_readers.specs.point.Read.{◌>>=◌}

-- one result tells one value
pub ok_same : {A : Type 0} (r : Result A Error) (a b : A) → r ≡ Ok a → r ≡ Ok b → a ≡ b
ok_same (Ok x) a b p q = let pa : x ≡ a = cc in let qb : x ≡ b = cc in sym pa ∙ qb
ok_same (Err e) a b p q = absurd cc

-- a step that told a value went on from one
pub bind_ok : {A B : Type 0} (r : Result A Error) (f : A → Result B Error) (y : B)
    → (r >>= f) ≡ Ok y → (x : A) × (r ≡ Ok x) × (f x ≡ Ok y)
bind_ok (Ok x) f y h = (x, refl, h)
bind_ok (Err e) f y h = absurd cc

number_fits : (large : Bool) (f k : Facts) (g : ℕ) → ltb (2 ^ 64 - 1) (f.seqno_max + g) ≡ large
    → cond large (Err GlobalSeqNoTooLarge) (Ok f) ≡ Ok k → k.seqno_max + g < 2 ^ 64
number_fits true f k g e h = absurd cc
number_fits false f k g e h =
    let same : f ≡ k = cc in
    let le : f.seqno_max + g ≤ 2 ^ 64 - 1 = ltb-false _ _ e in
    let max : f.seqno_max ≡ k.seqno_max = ap (λ (x : Facts). x.seqno_max) same in
    omega arith

abbrev made : ParsedRegions → Facts → Pinned → Parts
made regions facts pinned = record { facts = facts; regions = regions; pinned = pinned }

-- the steps of opening a table, each of which told what the parts hold
pub record Steps (bytes : List ℕ) (g : ℕ) (pin_filter pin_index : Bool)
    (parts : Parts) : Type 0 where
  pub trailer : parts_result bytes g pin_filter pin_index ≡ Ok parts
  pub regions : places_result bytes ≡ Ok parts.regions
  pub facts : meta_result (body_of bytes) parts.regions.metadata ≡ Ok parts.facts
  pub fits : parts.facts.seqno_max + g < 2 ^ 64
  pub pinned : pinned_result (body_of bytes) parts.regions pin_filter pin_index ≡ Ok parts.pinned

same_facts : (large : Bool) (f k : Facts) → cond large (Err GlobalSeqNoTooLarge) (Ok f) ≡ Ok k
    → f ≡ k
same_facts true f k h = absurd cc
same_facts false f k h = cc

-- they are, where each told something
steps_of : (bytes : List ℕ) (g : ℕ) (pin_filter pin_index : Bool) (parts : Parts)
    (regions : ParsedRegions) (reported_facts facts : Facts) (pinned : Pinned)
    → parts_result bytes g pin_filter pin_index ≡ Ok parts → places_result bytes ≡ Ok regions
    → meta_result (body_of bytes) regions.metadata ≡ Ok reported_facts
    → facts_fitting reported_facts g ≡ Ok facts
    → pinned_result (body_of bytes) regions pin_filter pin_index ≡ Ok pinned
    → made regions facts pinned ≡ parts → Steps bytes g pin_filter pin_index parts
steps_of bytes g pin_filter pin_index parts regions reported_facts facts pinned trailer places meta
    number pins same =
    let large = ltb (2 ^ 64 - 1) (reported_facts.seqno_max + g) in
    let kept : reported_facts ≡ facts = same_facts large reported_facts facts number in
    let all : Steps bytes g pin_filter pin_index (made regions facts pinned) = record {
      trailer = trailer ∙ ap (λ (p : Parts). Ok p) (sym same);
      regions = places;
      facts = meta ∙ ap (λ (f : Facts). Ok f) kept;
      fits = number_fits large reported_facts facts g refl number;
      pinned = pins;
    } in
    subst (Steps bytes g pin_filter pin_index) same all

pub steps : (bytes : List ℕ) (g : ℕ) (pin_filter pin_index : Bool) (parts : Parts)
    → recovered_result bytes g pin_filter pin_index ≡ Ok parts
    → Steps bytes g pin_filter pin_index parts
unfolding parts_result
steps bytes g pin_filter pin_index parts h =
    let returned = unless_ok (trailer_fault bytes) (parts_result bytes g pin_filter pin_index) parts h in
    let body = body_of bytes in
    let pinned_in : ParsedRegions → Result Pinned Error =
    λ regions. pinned_result body regions pin_filter pin_index in
    let r = bind_ok (places_result bytes) (λ regions. meta_result body regions.metadata >>= λ facts.
    facts_fitting facts g >>= λ facts. pinned_in regions >>= λ pinned. Ok
    (made regions facts pinned)) parts returned in
    let m = bind_ok (meta_result body (r.0).metadata)
    (λ facts. facts_fitting facts g >>= λ facts. pinned_in r.0 >>= λ pinned. Ok
    (made r.0 facts pinned)) parts r.2 in
    let n = bind_ok (facts_fitting m.0 g) (λ facts. pinned_in r.0 >>= λ pinned. Ok
    (made r.0 facts pinned)) parts m.2 in
    let i = bind_ok (pinned_in r.0) (λ pinned. Ok (made r.0 n.0 pinned)) parts n.2 in
    steps_of bytes g pin_filter pin_index parts r.0 m.0 n.0 i.0 returned r.1 m.1 n.1 i.1 cc

pub recovered_steps : (t : OpenTable) (is : IsRecovered t)
    → Steps t.bytes t.global_seqno is.pin_filter is.pin_index t.parts
recovered_steps t is = steps t.bytes t.global_seqno is.pin_filter is.pin_index t.parts is.returned

pub highest_fits : (t : OpenTable) → IsRecovered t
    → t.parts.facts.seqno_max + t.global_seqno < 2 ^ 64
highest_fits t h = (recovered_steps t h).fits

-- ---- the blocks that stay loaded

-- the steps of loading them, each of which told what they are
pub record PinnedSteps (body : List ℕ) (regions : ParsedRegions) (pin_filter pin_index : Bool)
    (pinned : Pinned) : Type 0 where
  pub index : index_result body regions pin_index ≡ Ok pinned.index
  pub filter_tops : tops_result body regions.filter_tli ≡ Ok pinned.filter_tops
  pub filter : filter_result body (pinned_filter regions pin_filter) ≡ Ok pinned.filter

abbrev pins : PinnedIndex → Option (List Handle) → Option BloomFilter → Pinned
pins index tops filter = record { index = index; filter_tops = tops; filter = filter }

pub pinned_steps : (body : List ℕ) (regions : ParsedRegions) (pin_filter pin_index : Bool)
    (pinned : Pinned) → pinned_result body regions pin_filter pin_index ≡ Ok pinned
    → PinnedSteps body regions pin_filter pin_index pinned
unfolding pinned_result
pinned_steps body regions pin_filter pin_index pinned h =
    let place = pinned_filter regions pin_filter in
    let i = bind_ok (index_result body regions pin_index)
    (λ index. tops_result body regions.filter_tli >>= λ tops. filter_result body place >>= λ filter.
    Ok (pins index tops filter)) pinned h in
    let t = bind_ok (tops_result body regions.filter_tli)
    (λ tops. filter_result body place >>= λ filter. Ok (pins i.0 tops filter)) pinned i.2 in
    let f = bind_ok (filter_result body place) (λ filter. Ok (pins i.0 t.0 filter)) pinned t.2 in
    let same : pins i.0 t.0 f.0 ≡ pinned = cc in
    subst (PinnedSteps body regions pin_filter pin_index) same
    (record { index = i.1; filter_tops = t.1; filter = f.1 })

-- opening what has no fault in its trailer tells what its parts tell
pub opening_result : (bytes source : List ℕ) (g : ℕ) (pin_filter pin_index : Bool)
    (returned : Result Parts Error) → trailer_fault bytes ≡ None → source ≡ bytes
    → parts_result source g pin_filter pin_index ≡ returned
    → recovered_result bytes g pin_filter pin_index ≡ returned
opening_result bytes source g pin_filter pin_index returned none same parts =
    ap (λ (o : Option Error). unless o (parts_result bytes g pin_filter pin_index)) none
    ∙ ap (λ (b : List ℕ). parts_result b g pin_filter pin_index) (sym same) ∙ parts

pub opening_fails : (bytes : List ℕ) (g : ℕ) (pin_filter pin_index : Bool) (e : Error)
    → (is_memory e ≡ false → trailer_fault bytes ≡ Some e)
    → Fails e (recovered_result bytes g pin_filter pin_index)
opening_fails bytes g pin_filter pin_index e fault memory =
    ap (λ (o : Option Error). unless o (parts_result bytes g pin_filter pin_index)) (fault memory)

-- a table of such bytes
pub is_open : (t : OpenTable) (bytes : List ℕ) (g : ℕ) (pin_filter pin_index : Bool)
    → t.bytes ≡ bytes → t.global_seqno ≡ g → length bytes < 2 ^ 63
    → recovered_result bytes g pin_filter pin_index ≡ Ok t.parts → IsOpen t
is_open t bytes g pin_filter pin_index same number short returned = record {
  recovered = record {
    pin_filter = pin_filter;
    pin_index = pin_index;
    returned = ap (λ (b : List ℕ). recovered_result b t.global_seqno pin_filter pin_index) same
        ∙ ap (λ (n : ℕ). recovered_result bytes n pin_filter pin_index) number ∙ returned;
  };
  short = subst (λ (b : List ℕ). length b < 2 ^ 63) (sym same) short;
}

-- the range that the bytes tell is the one that was recovered
pub range_is : (t : OpenTable) → IsRecovered t → key_range_result t.bytes ≡ t.parts.facts.key_range
range_is t h =
    let s = recovered_steps t h in
    ap (λ (r : Result ParsedRegions Error). range_in
    (r >>= λ regions. meta_result (body_of t.bytes) regions.metadata)) s.regions
    ∙ ap range_in s.facts

-- ---- what is refused before memory is taken

-- a call passed on a refusal that came first
pub first_from : {X : Type 0} (r : Result X Error) (e : Error) (returned : Option Error)
    → IsErrAnd r (λ y. y ≡ e) → ((f : Error) → returned ≡ Some f → Some f ≡ Some e) → FaultsFirst r returned
first_from (Ok x) e returned is first = absurd is
first_from (Err d) e returned is first = λ f h. first f h ∙ ap (λ (y : Error). Some y) (sym is)

-- nothing is told
pub first_none : {X : Type 0} (r : Result X Error) (returned : Option Error)
    → ((f : Error) → returned ≡ Some f → Some f ≡ None) → FaultsFirst r returned
first_none r returned none = λ f h. absurd (let no : Some f ≡ None = none f h in cc)

-- the trailer, then the rest
pub trailer_first : {X : Type 0} (r : Result X Error) (bytes : List ℕ) (e : Error)
    → IsErrAnd r (λ y. y ≡ e) → trailer_fault bytes ≡ Some e → FaultsFirst r (early_fault bytes)
trailer_first r bytes e is fault = first_from r e (early_fault bytes) is (rw fault (λ f h. sym h))

pub trailer_fine : {X : Type 0} (r : Result X Error) (bytes source : List ℕ)
    → trailer_fault bytes ≡ None → source ≡ bytes
    → FaultsFirst r (early_in (body_of source) (places_result source))
    → FaultsFirst r (early_fault bytes)
trailer_fine r bytes source fine same first =
    rw fine (subst (λ (b : List ℕ). FaultsFirst r (early_in (body_of b) (places_result b))) same
    first)

-- the regions, then the meta block
pub places_first : {X : Type 0} (r : Result X Error) (body : List ℕ)
    (places : Result ParsedRegions Error) (e : Error) → IsErrAnd r (λ y. y ≡ e) → places ≡ Err e
    → FaultsFirst r (early_in body places)
places_first r body places e is fault = first_from r e (early_in body places) is
    (rw fault (λ f h. sym h))

pub places_fine : {X : Type 0} (r : Result X Error) (body : List ℕ)
    (places : Result ParsedRegions Error) (regions : ParsedRegions) → places ≡ Ok regions
    → FaultsFirst r (place_fault body regions.metadata.offset regions.metadata.size Meta)
    → FaultsFirst r (early_in body places)
places_fine r body places regions fine first = rw fine first

-- nothing is told where there is no fault of the trailer, of the regions, or of where the meta
-- block lies
pub places_none : (body : List ℕ) (places : Result ParsedRegions Error) (regions : ParsedRegions)
    → places ≡ Ok regions
    → ((f : Error) → place_fault body regions.metadata.offset regions.metadata.size Meta ≡ Some f
    → Some f ≡ None) → (f : Error) → early_in body places ≡ Some f → Some f ≡ None
places_none body places regions fine none f h = none f (ap (early_in body) (sym fine) ∙ h)

pub trailer_none : (bytes source : List ℕ) → trailer_fault bytes ≡ None → source ≡ bytes
    → ((f : Error) → early_in (body_of source) (places_result source) ≡ Some f → Some f ≡ None)
    → (f : Error) → early_fault bytes ≡ Some f → Some f ≡ None
trailer_none bytes source fine same none f h =
    let rest : Option Error = early_in (body_of bytes) (places_result bytes) in
    let behind : rest ≡ Some f = ap (λ (o : Option Error). option_or o rest) (sym fine) ∙ h in
    none f (ap (λ (b : List ℕ). early_in (body_of b) (places_result b)) same ∙ behind)
