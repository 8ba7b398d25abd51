-- A flush is replied to by what it means, and a look by what is kept.
use Rattle.std.proofs.Common.{◌≡◌, refl, sym, ◌∙◌, ap, subst, ℕ, ◌+◌, ◌⊎◌, List, [], ◌∷◌, ◌++◌, length, Option, Some, None, Result, Ok, Err, inl, inr, arith, length-append}
use Rattle.std.specs.Prelude.{IfOk, MatchResult}
use Rattle.std.specs.Option.{IsSomeAnd}
use Rattle.olap_meaning.specs.declared.OutOfMemory.{OutOfMemory}
use Rattle.olap_meaning.specs.declared.regions.Region.{Region}
use Rattle.olap_meaning.specs.declared.tables.Catalog.{Catalog}
use Rattle.olap_meaning.specs.History.{Entry, Saw}
use Rattle.query_meaning.specs.RegionMeaning.{RegionRefusal}
use Rattle.query_meaning.specs.RegionReplies.{flush_refusal_reply}
use Rattle.query_meaning.specs.Replies.{no_memory_reply}
use Rattle.region_algebra.specs.Faults.{refusal_of}
use Rattle.region_algebra.specs.declared.fault.RegionFault.{RegionFault}
use Rattle.region_algebra.specs.declared.fault.RegionFault.TheVariants as fault
use Rattle.history_core.specs.Cache.{CacheOf}
use Rattle.history_core.specs.declared.answers.CacheView.{CacheView}
use Rattle.result_layout.specs.CacheTexts.{cache_text}
use Rattle.line_session.specs.Desks.{AddsNone, DeskOf, HasShown}
use Rattle.line_session.specs.Replies.{AnswersFlush, AnswersShow, LacksMemory}
use Rattle.line_session.proofs.GoingOn.{adds_none}
use Rattle.line_session.proofs.Replying.{between, stands_still}

-- there was no memory, and nothing was added
pub lacks_memory : (before after : DeskOf) (reply : List ℕ) → AddsNone before after → reply ≡ no_memory_reply → LacksMemory (between before after []) None reply
lacks_memory before after reply none told = record { adds = none; none = refl; no_memory = told }

-- there was no memory to find what a flush means
unmeant : (desk : DeskOf) (cube : ℕ) (meant : Result Region RegionRefusal) (reply : List ℕ) → reply ≡ no_memory_reply → AnswersFlush (between desk desk []) cube meant None reply
unmeant desk cube (Ok region) reply told = inr (lacks_memory desk desk reply (adds_none desk) told, refl)
unmeant desk cube (Err refused) reply told = (stands_still desk, inr told)

-- a flush means no region, or there was no memory to find what it means
pub no_region :
    (desk : DeskOf) (known : Catalog) (cube : ℕ) (meant : Result Region RegionRefusal) (why : RegionFault) (reply : List ℕ) → known ≡ desk.cache.setting.catalog → (why ≡ fault.OutOfMemory) ⊎ IsSomeAnd (refusal_of why) (λ refused. meant ≡ Err refused)
    → (reply ≡ no_memory_reply) ⊎ IsSomeAnd (refusal_of why) (λ refused. reply ≡ flush_refusal_reply known cube refused) → AnswersFlush (between desk desk []) cube meant None reply
no_region desk known cube meant why reply same is (inl told) = unmeant desk cube meant reply told
no_region desk known cube meant why reply same (inl memory) (inr told) = absurd (subst (λ (w : RegionFault). IsSomeAnd (refusal_of w) (λ refused. reply ≡ flush_refusal_reply known cube refused)) memory told)
no_region desk known cube meant why reply same (inr is) (inr told) = by (refusal_of why) is told
  where
    by : (o : Option RegionRefusal) → IsSomeAnd o (λ refused. meant ≡ Err refused) → IsSomeAnd o (λ refused. reply ≡ flush_refusal_reply known cube refused) → AnswersFlush (between desk desk []) cube meant None reply
    by None i t = absurd i
    by (Some refused) i t =
        let there = subst (λ (k : Catalog). reply ≡ flush_refusal_reply k cube refused) same t in
        subst (λ (m : Result Region RegionRefusal). AnswersFlush (between desk desk []) cube m None reply) (sym i) (stands_still desk, inl there)

-- the position of a look is one after the entries that it finds
look_position : (before after : DeskOf) (view : CacheView) (shows : HasShown before after view) → view.position ≡ length (before.cache.entries ++ shows.more) + 1
look_position before after view shows =
    let all = ap (λ (cache : CacheOf). length cache.entries) shows.adds.goes_on.cache in
    let first = length-append before.cache.entries (shows.more ++ Saw shows.who ∷ []) in
    let last = length-append shows.more (Saw shows.who ∷ []) in
    let both = length-append before.cache.entries shows.more in
    omega (arith, shows.position_is, all, first, last, both)

-- what is kept was shown, and is told by its text; or there was no memory for that
pub kept_is_told :
    (before after : DeskOf) (known : Catalog) (view : CacheView) (made : Result (List ℕ) OutOfMemory) (reply : List ℕ) → known ≡ before.cache.setting.catalog → HasShown before after view → IfOk made (λ text. text ≡ cache_text known view.position view.lines)
    → MatchResult made (λ text. reply ≡ text) (λ _. reply ≡ no_memory_reply) → AnswersShow (between before after []) (Some view.position) reply
kept_is_told before after known view (Ok text) reply same shows is told =
    let history : List Entry = before.cache.entries ++ shows.more in
    let there = ap (λ (k : Catalog). cache_text k view.position view.lines) same in
    let position = ap (λ (p : ℕ). cache_text before.cache.setting.catalog p view.lines) (look_position before after view shows) in
    let lines = ap (cache_text before.cache.setting.catalog (length history + 1)) shows.lines in
    (refl, inl (record { view = view; shows = shows; position_is = refl; text = inl (told ∙ is ∙ there ∙ position ∙ lines) }))
kept_is_told before after known view (Err error) reply same shows is told = (refl, inl (record { view = view; shows = shows; position_is = refl; text = inr told }))
