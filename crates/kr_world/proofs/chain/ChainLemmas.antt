-- How logs stand to each other along the chain, and to the history.
use Rattle.std.proofs.Common.{zero, suc, ◌≡◌, ◌≢◌, ◌⊎◌, ℕ, ◌+◌, ◌-◌, ◌<◌, ◌≤◌, Bool, true, false, cond, List, length, get_or, sym, ap, ◌∙◌, subst, arith, inl, inr, refl}
use Rattle.std.specs.Prelude.{None, Some, slice_get, Option}
use Rattle.std.proofs.lemmas.Bool.{cases_eq, cases_lt, eq-eqb, eqb-true, false≢true}
use Rattle.std.proofs.lemmas.Option.{same_Some, slice_get_within, slice_get-get_or, none-some}
use Rattle.kr_order.specs.declared.ids.ServerId.{ServerId}
use Rattle.kr_order.specs.declared.view.View.{View}
use Rattle.kr_order.specs.Prefix.{IsPrefix}
use Rattle.kr_order.specs.View.{in_chain, last_member, next_of, prev_of, names}
use Rattle.kr_order.proofs.PrefixLemmas.{IsPrefix-nil, IsPrefix-refl, IsPrefix-trans}
use Rattle.kr_protocol.specs.Manager.{Manager, views_of}
use Rattle.kr_protocol.specs.Evolves.{Evolves}
use Rattle.kr_protocol.specs.Server.{Server, viewed, is_member, is_server, prev, next, joiner_behind, behind, view_number}
use Rattle.kr_protocol.proofs.TimelineLemmas.{IsListed, made_by, counting, follow, rises, is_no_newer, listed_current, made_now, named_before, between, still_named}
use Rattle.kr_protocol.proofs.NeighbourLemmas.{member_is_named, last_is, has_last, IsBefore, prev_before, has_prev, next_prev}
use Rattle.kr_protocol.proofs.NextLemmas.{neighbours_stay, gap_closes, joins_between, last_between}
use Rattle.kr_world.specs.World.{World, is_stopped}
use Rattle.kr_world.specs.Sound.{IsSound, IsOwnView, IsBlank, IsViewed, IsBelowPredecessor, WasBeside}

-- the server at an index has the number that follows it
abbrev pub AreNumbered : List Server → Type 0
AreNumbered servers = (i : ℕ) (server : Server) → slice_get servers i ≡ Some server → server.id.0 ≡ i + 1

abbrev pub server_id : ℕ → ServerId
server_id n = record { 0 = n }

pub same_server : (a b : ServerId) → a.0 ≡ b.0 → a ≡ b
same_server a b is = ap server_id is

-- the servers that the manager's views name: each is at its number, and has no more in its log than the one before it
pub record IsChain (stopped : ServerId → Bool) (manager : Manager) (servers : List Server) : Type 0 where
  pub evolves : Evolves stopped manager
  pub made : manager.made ≡ length servers
  pub numbered : AreNumbered servers
  pub own : (i : ℕ) (server : Server) → slice_get servers i ≡ Some server → IsViewed (views_of manager) server
  pub below : (i : ℕ) (server : Server) → slice_get servers i ≡ Some server → IsBelowPredecessor servers server

pub chain_of : (world : World) → IsSound world → IsChain (is_stopped world) world.manager world.servers
chain_of world sound =
    record {
      evolves = sound.evolves;
      made = sound.made;
      numbered = λ i server there. (sound.servers i server there).id;
      own = λ i server there. (sound.servers i server there).own_view;
      below = λ i server there. (sound.servers i server there).below;
    }

-- a test that says that this is the server
pub some_one : (found : Option ServerId) (id : ServerId) → is_server found id ≡ true → found ≡ Some id
some_one None id is = absurd (false≢true is)
some_one (Some server) id is = ap (λ s. Some s) (same_server server id (eqb-true server.0 id.0 is))

-- a server stands beside a joiner by its own view
pub record StandsBeside (views : List View) (server : Server) (joiner : ServerId) : Type 0 where
  pub was : WasBeside views server joiner
  pub number : was.heard.number ≡ view_number server.view
  pub greater : server.id.0 < joiner.0

-- a server that a view names
pub record IsThere (servers : List Server) (id : ServerId) : Type 0 where
  pub server : Server
  pub at : slice_get servers (id.0 - 1) ≡ Some server
  pub its : server.id ≡ id

module _ (stopped : ServerId → Bool) (manager : Manager) (servers : List Server) (chain : IsChain stopped manager servers) where
  abbrev pub Listed : View → Type 0
  Listed view = IsListed manager view

  abbrev pub made : View → ℕ
  made view = made_by stopped manager chain.evolves view

  -- no listed view names a number beyond those of the servers that there are
  pub named_most : (view : View) (id : ServerId) → Listed view → names view id ≡ true → (1 ≤ id.0) × (id.0 ≤ length servers)
  named_most view id listed named =
      let most = (rises stopped manager chain.evolves view listed).most id named in
      let most' = most.1 in
      let newest = listed_current stopped manager chain.evolves in
      let le = (is_no_newer stopped manager chain.evolves view listed).1 in
      let grown = (follow stopped manager chain.evolves view manager.current listed newest le).made_more in
      let all = made_now stopped manager chain.evolves in
      let count = chain.made in
      (most.0, omega arith)

  -- each server that a listed view names is there
  pub there_of : (view : View) (id : ServerId) (some : Server) → Listed view → names view id ≡ true → IsThere servers id
  there_of view id some listed named =
      let most = named_most view id listed named in
      let low = most.0 in
      let high = most.1 in
      let at : slice_get servers (id.0 - 1) ≡ Some (get_or servers (id.0 - 1) some) = slice_get-get_or servers (id.0 - 1) some (omega arith) in
      let number = chain.numbered (id.0 - 1) (get_or servers (id.0 - 1) some) at in
      record { server = get_or servers (id.0 - 1) some; at = at; its = same_server (get_or servers (id.0 - 1) some).id id (omega arith) }

  -- a server's own view
  pub own_number : (i : ℕ) (server : Server) → slice_get servers i ≡ Some server → (own : IsOwnView (views_of manager) server) → view_number server.view ≡ own.view.number
  own_number i server at own = ap view_number own.adopted

  pub own_prev : (server before : Server) → (own : IsOwnView (views_of manager) server) → prev_of own.view server.id ≡ Some before.id → prev server ≡ Some before.id
  own_prev server before own is = ap (λ v. viewed None prev_of v server.id) own.adopted ∙ is

  -- what a server without a view has stands in every log
  blank_below : (server other : Server) → IsBlank server → IsPrefix server.log other.log
  blank_below server other blank = subst (λ l. IsPrefix l other.log) (sym blank.log) (IsPrefix-nil other.log)

  -- two listed views of one number are one
  same_view : (view other : View) → Listed view → Listed other → view.number ≡ other.number → view ≡ other
  same_view view other listed listed' same =
      same_Some view other (sym listed ∙ subst (λ n. slice_get (views_of manager) (n - 1) ≡ Some other) (sym same) listed')

  -- by its own view a server has no more than the one before it
  by_own : (i j : ℕ) (view : View) (server before : Server) → Listed view → slice_get servers i ≡ Some server → slice_get servers j ≡ Some before
      → IsOwnView (views_of manager) server → view_number server.view ≡ view.number → prev_of view server.id ≡ Some before.id → IsPrefix server.log before.log
  by_own i j view server before listed at at' own same is =
      let its : view ≡ own.view = same_view view own.view listed own.listed (sym same ∙ own_number i server at own) in
      chain.below i server at j before at' (own_prev server before own (ap (λ v. prev_of v server.id) (sym its) ∙ is))

  -- a view is of the index before its number
  listed_at : (k : ℕ) (view : View) → slice_get (views_of manager) k ≡ Some view → view.number ≡ k + 1 → Listed view
  listed_at k view at number = subst (λ n. slice_get (views_of manager) n ≡ Some view) (omega arith) at

  -- who is not named by a view, though by the one before, has adopted none that is as new
  older : (view next : View) (k : ℕ) (server : Server) → slice_get (views_of manager) k ≡ Some view → slice_get (views_of manager) (k + 1) ≡ Some next
      → view.number ≡ k + 1 → next.number ≡ k + 2 → (own : IsOwnView (views_of manager) server) → names view server.id ≡ true → names next server.id ≡ false → own.view.number ≤ view.number
  older view next k server at at' number number' own named left =
      elim (cases_lt view.number own.view.number) [
        | inr le ↦ le
        | inl lt ↦
            let named' = between stopped manager chain.evolves view next own.view server.id (listed_at k view at number) (listed_at (k + 1) next at' (omega arith)) own.listed (omega arith) (omega arith) named own.named in
            absurd (false≢true (sym left ∙ named'))
      ]

  -- of two servers that follow each other in a listed view that is no older than the later one's own, the earlier has all
  -- that the later has
  rise_by : (k i j : ℕ) (view : View) (server before : Server) → slice_get (views_of manager) k ≡ Some view → view.number ≡ k + 1
      → slice_get servers i ≡ Some server → slice_get servers j ≡ Some before
      → view_number server.view ≤ view.number → prev_of view server.id ≡ Some before.id → IsPrefix server.log before.log
  rise_by zero i j view server before at_k number at at' le is = by_view (chain.own i server at)
    where
      by_view : IsViewed (views_of manager) server → IsPrefix server.log before.log
      by_view (inr blank) = blank_below server before blank
      by_view (inl own) =
          let low = (is_no_newer stopped manager chain.evolves own.view own.listed).0 in
          by_own i j view server before (listed_at zero view at_k number) at at' own (omega (arith, own_number i server at own)) is
  rise_by (suc k) i j view server before at_k number at at' le is = by_view (rise_by k) (chain.own i server at)
    where
      last : View
      last = get_or (views_of manager) k view

      last_at : slice_get (views_of manager) k ≡ Some last
      last_at = slice_get-get_or (views_of manager) k view (let within = slice_get_within (views_of manager) (suc k) view at_k in omega arith)

      last_number : last.number ≡ k + 1
      last_number = (counting stopped manager chain.evolves).numbers k last last_at

      here : slice_get (views_of manager) (k + 1) ≡ Some view
      here = subst (λ n. slice_get (views_of manager) n ≡ Some view) (omega arith) at_k

      listed : Listed view
      listed = listed_at (suc k) view at_k number

      listed' : Listed last
      listed' = listed_at k last last_at last_number

      Rises : Type 0
      Rises = (i j : ℕ) (view : View) (server before : Server) → slice_get (views_of manager) k ≡ Some view → view.number ≡ k + 1
          → slice_get servers i ≡ Some server → slice_get servers j ≡ Some before
          → view_number server.view ≤ view.number → prev_of view server.id ≡ Some before.id → IsPrefix server.log before.log

      over : Rises → IsBefore view before.id server.id → view_number server.view ≤ last.number → names last server.id ≡ true → (gone : ServerId) → prev_of last server.id ≡ Some gone → IsThere servers gone → IsPrefix server.log before.log
      over rises_so its le named gone was there = by_same (cases_eq gone.0 before.id.0)
        where
          first : IsPrefix server.log there.server.log
          first = rises_so i (gone.0 - 1) last server there.server last_at last_number at there.at le (was ∙ ap (λ d. Some d) (sym there.its))

          by_same : (gone.0 ≡ before.id.0) ⊎ (gone.0 ≢ before.id.0) → IsPrefix server.log before.log
          by_same (inl same) =
              let number' = chain.numbered j before at' in
              let its_at : slice_get servers (gone.0 - 1) ≡ Some before = subst (λ n. slice_get servers n ≡ Some before) (omega arith) at' in
              subst (λ (s : Server). IsPrefix server.log s.log) (same_Some there.server before (sym there.at ∙ its_at)) first
          by_same (inr differ) =
              let closed = gap_closes stopped manager chain.evolves k last view gone before.id server.id last_at here was is differ in
              let before_it = prev_before last (made last) (rises stopped manager chain.evolves last listed') gone server.id was in
              let gone_named : names last there.server.id ≡ true = ap (names last) there.its ∙ member_is_named last gone before_it.member in
              let gone_left : names view there.server.id ≡ false = ap (names view) there.its ∙ closed.left in
              IsPrefix-trans server.log there.server.log before.log first (second gone_named gone_left (ap (prev_of last) there.its ∙ closed.stood) (chain.own (gone.0 - 1) there.server there.at))
            where
              second : names last there.server.id ≡ true → names view there.server.id ≡ false → prev_of last there.server.id ≡ Some before.id → IsViewed (views_of manager) there.server → IsPrefix there.server.log before.log
              second named left stood (inr blank) = blank_below there.server before blank
              second named left stood (inl gone_own) =
                  let its_age = older last view k there.server last_at here last_number (omega arith) gone_own named left in
                  rises_so (gone.0 - 1) j last there.server before last_at last_number there.at at' (omega (arith, own_number (gone.0 - 1) there.server there.at gone_own)) stood

      by_age : Rises → IsOwnView (views_of manager) server → (view_number server.view ≡ view.number) ⊎ (view_number server.view ≢ view.number) → IsPrefix server.log before.log
      by_age rises_so own (inl same) = by_own i j view server before listed at at' own same is
      by_age rises_so own (inr differ) =
          let mine = own_number i server at own in
          let its = prev_before view (made view) (rises stopped manager chain.evolves view listed) before.id server.id is in
          let lt = its.lt in
          let number' = last_number in
          let named = between stopped manager chain.evolves own.view last view server.id own.listed listed' listed (omega arith) (omega arith) own.named its.named in
          let known = named_before stopped manager chain.evolves last view before.id server.id listed' listed (omega arith) named (member_is_named view before.id its.member) (omega arith) in
          let has = has_prev last (made last) (rises stopped manager chain.evolves last listed') server.id before.id named known its.lt in
          let before_it = prev_before last (made last) (rises stopped manager chain.evolves last listed') has.0 server.id has.1 in
          over rises_so its (omega arith) named has.0 has.1 (there_of last has.0 server listed' (member_is_named last has.0 before_it.member))

      by_view : Rises → IsViewed (views_of manager) server → IsPrefix server.log before.log
      by_view rises_so (inr blank) = blank_below server before blank
      by_view rises_so (inl own) = by_age rises_so own (cases_eq (view_number server.view) view.number)

  pub rise : (i j : ℕ) (view : View) (server before : Server) → Listed view → slice_get servers i ≡ Some server → slice_get servers j ≡ Some before
      → view_number server.view ≤ view.number → prev_of view server.id ≡ Some before.id → IsPrefix server.log before.log
  rise i j view server before listed at at' le is =
      let low = (is_no_newer stopped manager chain.evolves view listed).0 in
      rise_by (view.number - 1) i j view server before listed (omega arith) at at' le is

  -- no server has adopted a view newer than the current one
  pub own_old : (i : ℕ) (server : Server) → slice_get servers i ≡ Some server → view_number server.view ≤ manager.current.number
  own_old i server at = by_view (chain.own i server at)
    where
      by_view : IsViewed (views_of manager) server → view_number server.view ≤ manager.current.number
      by_view (inr blank) = omega (arith, ap view_number blank.none)
      by_view (inl own) =
          let le = (is_no_newer stopped manager chain.evolves own.view own.listed).1 in
          omega (arith, own_number i server at own)

  -- servers of one number are one
  same_log : (i j : ℕ) (server later : Server) → slice_get servers i ≡ Some server → slice_get servers j ≡ Some later → server.id.0 ≡ later.id.0 → IsPrefix later.log server.log
  same_log i j server later at at' same =
      let number = chain.numbered i server at in
      let number' = chain.numbered j later at' in
      let its : server ≡ later = same_Some server later (sym at ∙ subst (λ k. slice_get servers k ≡ Some later) (omega arith) at') in
      subst (λ (s : Server). IsPrefix s.log server.log) its (IsPrefix-refl server.log)

  -- of two servers that the current view names that with the smaller number has all that the other has
  descends_by : (n i j : ℕ) (server later : Server) → slice_get servers i ≡ Some server → slice_get servers j ≡ Some later
      → names manager.current server.id ≡ true → names manager.current later.id ≡ true → server.id.0 ≤ later.id.0 → later.id.0 ≤ server.id.0 + n → IsPrefix later.log server.log
  descends_by zero i j server later at at' named named' le within = same_log i j server later at at' (omega arith)
  descends_by (suc n) i j server later at at' named named' le within =
      by_same (descends_by n) (cases_eq server.id.0 later.id.0)
    where
      newest : Listed manager.current
      newest = listed_current stopped manager chain.evolves

      Descends : Type 0
      Descends = (i j : ℕ) (server later : Server) → slice_get servers i ≡ Some server → slice_get servers j ≡ Some later
          → names manager.current server.id ≡ true → names manager.current later.id ≡ true → server.id.0 ≤ later.id.0 → later.id.0 ≤ server.id.0 + n → IsPrefix later.log server.log

      by_same : Descends → (server.id.0 ≡ later.id.0) ⊎ (server.id.0 ≢ later.id.0) → IsPrefix later.log server.log
      by_same more (inl same) = same_log i j server later at at' same
      by_same more (inr differ) =
          let rising = rises stopped manager chain.evolves manager.current newest in
          let has = has_prev manager.current (made manager.current) rising later.id server.id named' named (omega arith) in
          let its = prev_before manager.current (made manager.current) rising has.0 later.id has.1 in
          let lt = its.lt in
          let near = its.nearest server.id named (omega arith) in
          let before_named = member_is_named manager.current has.0 its.member in
          let there = there_of manager.current has.0 server newest before_named in
          let number = ap (λ (d : ServerId). d.0) there.its in
          let first = rise j (has.0.0 - 1) manager.current later there.server newest at' there.at (own_old j later at') (has.1 ∙ ap (λ d. Some d) (sym there.its)) in
          let rest = more i (has.0.0 - 1) server there.server at there.at named (ap (names manager.current) there.its ∙ before_named) (omega arith) (omega arith) in
          IsPrefix-trans later.log there.server.log server.log first rest

  pub descends : (i j : ℕ) (server later : Server) → slice_get servers i ≡ Some server → slice_get servers j ≡ Some later
      → names manager.current server.id ≡ true → names manager.current later.id ≡ true → server.id.0 ≤ later.id.0 → IsPrefix later.log server.log
  descends i j server later at at' named named' le = descends_by later.id.0 i j server later at at' named named' le (omega arith)

  -- a server that has not stopped is still named
  pub live_named : (server : Server) → IsOwnView (views_of manager) server → stopped server.id ≡ false → names manager.current server.id ≡ true
  live_named server own runs =
      let newest = listed_current stopped manager chain.evolves in
      still_named stopped manager chain.evolves own.view manager.current server.id own.listed newest (is_no_newer stopped manager chain.evolves own.view own.listed).1 own.named runs

  -- and a member where it was one by its own view
  pub live_member : (i : ℕ) (server : Server) → slice_get servers i ≡ Some server → stopped server.id ≡ false → is_member server ≡ true → in_chain manager.current server.id ≡ true
  live_member i server at runs member = by_view (chain.own i server at)
    where
      by_view : IsViewed (views_of manager) server → in_chain manager.current server.id ≡ true
      by_view (inr blank) = absurd (false≢true (sym (ap (λ v. viewed false in_chain v server.id) blank.none) ∙ member))
      by_view (inl own) =
          let newest = listed_current stopped manager chain.evolves in
          let its : in_chain own.view server.id ≡ true = sym (ap (λ v. viewed false in_chain v server.id) own.adopted) ∙ member in
          let both = follow stopped manager chain.evolves own.view manager.current own.listed newest (is_no_newer stopped manager chain.evolves own.view own.listed).1 in
          both.members server.id its (live_named server own runs)

  -- who follows a server that has not stopped has no more than it
  pub follower_below : (i j : ℕ) (server later : Server) → slice_get servers i ≡ Some server → slice_get servers j ≡ Some later
      → stopped server.id ≡ false → next server ≡ Some later.id → IsPrefix later.log server.log
  follower_below i j server later at at' runs is = by_views (chain.own i server at) (chain.own j later at')
    where
      by_age : (own : IsOwnView (views_of manager) server) (its : IsOwnView (views_of manager) later) → prev_of own.view later.id ≡ Some server.id
          → (own.view.number < its.view.number) ⊎ (its.view.number ≤ own.view.number) → IsPrefix later.log server.log
      by_age own its stands (inr le) = rise j i own.view later server own.listed at' at (omega (arith, own_number j later at' its)) stands
      by_age own its stands (inl lt) =
          let newest = listed_current stopped manager chain.evolves in
          let le = (is_no_newer stopped manager chain.evolves its.view its.listed).1 in
          let named = between stopped manager chain.evolves own.view its.view manager.current server.id own.listed its.listed newest (omega arith) le own.named (live_named server own runs) in
          let stays = neighbours_stay stopped manager chain.evolves own.view its.view server.id later.id own.listed its.listed (omega arith) stands its.named named in
          rise j i its.view later server its.listed at' at (omega (arith, own_number j later at' its)) stays

      by_views : IsViewed (views_of manager) server → IsViewed (views_of manager) later → IsPrefix later.log server.log
      by_views (inr blank) its = absurd (none-some later.id (sym (ap (λ v. viewed None next_of v server.id) blank.none) ∙ is))
      by_views (inl own) (inr blank) = blank_below later server blank
      by_views (inl own) (inl its) =
          let follows : next_of own.view server.id ≡ Some later.id = sym (ap (λ v. viewed None next_of v server.id) own.adopted) ∙ is in
          let stands = (next_prev own.view (made own.view) (rises stopped manager chain.evolves own.view own.listed) server.id later.id follows).1 in
          by_age own its stands (cases_lt own.view.number its.view.number)

  -- the last member beside a joiner by a view of earlier and by one of later was so by the one between, its own
  pub was_beside : (server : Server) (later : View) (joiner : ServerId) → WasBeside (views_of manager) server joiner → IsViewed (views_of manager) server
      → Listed later → view_number server.view ≤ later.number → later.joiner ≡ Some joiner → last_member later ≡ Some server.id → behind server ≡ Some joiner
  was_beside server later joiner beside (inr blank) listed le joins ends =
      let low = (is_no_newer stopped manager chain.evolves beside.heard beside.listed).0 in
      let no_newer = beside.no_newer in
      absurd (omega (arith, ap view_number blank.none))
  was_beside server later joiner beside (inl own) listed le joins ends =
      let no_newer = beside.no_newer in
      let number = ap view_number own.adopted in
      let its = joins_between stopped manager chain.evolves beside.heard own.view later joiner beside.listed own.listed listed (omega arith) (omega arith) beside.joins joins in
      let last = last_between stopped manager chain.evolves beside.heard own.view later joiner server.id beside.listed own.listed listed (omega arith) (omega arith) beside.joins joins beside.last ends in
      let same : is_server (last_member own.view) server.id ≡ true = ap (λ o. is_server o server.id) last ∙ eq-eqb server.id.0 server.id.0 refl in
      ap (λ v. viewed None joiner_behind v server.id) own.adopted ∙ ap (λ test. cond test own.view.joiner None) same ∙ its

  -- who stands beside a joiner by its own view saw that, and the joiner has a greater number
  pub beside_now : (server : Server) (joiner : ServerId) → IsViewed (views_of manager) server → behind server ≡ Some joiner → StandsBeside (views_of manager) server joiner
  beside_now server joiner (inr blank) is = absurd (none-some joiner (sym (ap (λ v. viewed None joiner_behind v server.id) blank.none) ∙ is))
  beside_now server joiner (inl own) is = by_last (is_server (last_member own.view) server.id) refl (sym (ap (λ v. viewed None joiner_behind v server.id) own.adopted) ∙ is)
    where
      by_last : (test : Bool) → is_server (last_member own.view) server.id ≡ test → cond test own.view.joiner None ≡ Some joiner → StandsBeside (views_of manager) server joiner
      by_last false same joins = absurd (none-some joiner joins)
      by_last true same joins =
          let ends = some_one (last_member own.view) server.id same in
          let rising = rises stopped manager chain.evolves own.view own.listed in
          let last = last_is own.view (made own.view) rising server.id ends in
          let number = ap view_number own.adopted in
          record {
            was = record { heard = own.view; listed = own.listed; no_newer = omega arith; last = ends; joins = joins };
            number = sym number;
            greater = rising.joiner server.id joiner last.member joins;
          }

-- the history stands in the log of each member of the current view
pub member_holds : (world : World) → IsSound world → (i : ℕ) (server : Server) → slice_get world.servers i ≡ Some server
    → in_chain world.manager.current server.id ≡ true → IsPrefix world.history server.log
member_holds world sound i server at member =
    let chain = chain_of world sound in
    let stopped = is_stopped world in
    let manager = world.manager in
    let newest = listed_current stopped manager sound.evolves in
    let rising = rises stopped manager sound.evolves manager.current newest in
    let has = has_last manager.current (made_by stopped manager sound.evolves manager.current) rising in
    let last = last_is manager.current (made_by stopped manager sound.evolves manager.current) rising has.0 has.1 in
    let last_named = member_is_named manager.current has.0 last.member in
    let there = there_of stopped manager world.servers chain manager.current has.0 server newest last_named in
    let number = ap (λ (d : ServerId). d.0) there.its in
    let holds = sound.last_holds has.0 there.server has.1 there.at in
    let le = last.greatest server.id member in
    IsPrefix-trans world.history there.server.log server.log holds
    (descends stopped manager world.servers chain i (has.0.0 - 1) server there.server at there.at (member_is_named manager.current server.id member) (ap (names manager.current) there.its ∙ last_named) (omega arith))
