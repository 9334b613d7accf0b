-- What a request asks for, by its path and its method.
use Rattle.std.specs.Prelude.{ℕ, List, [], ◌∷◌, Option, Some, None, codes, option_map, unwrap_or, if◌then◌else◌}
use Rattle.std.specs.Str.{bytes_eq}
use Rattle.dv_catalog.specs.FirstOf.{first_of}
use Rattle.dv_http.specs.declared.requests.Request.{Request}
use Rattle.dv_print.specs.Words.{behind}
use Rattle.dv_desk.specs.declared.routes.Route.{Route as Found}
use Rattle.dv_desk.specs.declared.routes.Route.TheVariants as found
use Rattle.dv_desk.specs.declared.routes.Routed.{Routed as Given}
use Rattle.dv_desk.specs.declared.routes.Routed.TheVariants as given
use Rattle.dv_desk.specs.declared.routes.Query.{Query as GivenQuery}
use Rattle.dv_desk.specs.declared.routes.Query.TheVariants as queries
use Rattle.dv_desk.specs.declared.routes.Allowed.{Allowed}
use Rattle.dv_desk.specs.declared.routes.Allowed.TheVariants.{Get, GetPost}

-- ---- the paths

pub data Route : Type 0 where
  -- the windows
  Windows : Route
  -- the mart of a word
  Mart : (word : List ℕ) → Route
  -- the raw table of a name
  Table : (name : List ℕ) → Route
  -- the stored point-in-time table of the hub of a name
  Pit : (hub : List ℕ) → Route
  -- any other path
  NoRoute : Route

abbrev pub windows_route : List ℕ → Option Route
windows_route path = if bytes_eq path (codes "/windows") then Some Windows else None

abbrev pub mart_route : List ℕ → Option Route
mart_route path = option_map (λ word. Mart word) (behind (codes "/marts/") path)

abbrev pub table_route : List ℕ → Option Route
table_route path = option_map (λ name. Table name) (behind (codes "/tables/") path)

abbrev pub pit_route : List ℕ → Option Route
pit_route path = option_map (λ hub. Pit hub) (behind (codes "/pits/") path)

-- what a path leads to; a name is all that follows, as it stands
abbrev pub route_of : List ℕ → Route
route_of path = unwrap_or (first_of (windows_route path ∷ mart_route path ∷ table_route path ∷ pit_route path ∷ [])) NoRoute

-- ---- what is asked for

-- what is only read
pub data Query : Type 0 where
  -- the heads of the windows
  Heads : Query
  -- the mart of a word, at a date
  MartAt : (word date : List ℕ) → Query
  -- the raw table of a name, with all its rows
  TableOf : (name : List ℕ) → Query
  -- the point-in-time table of a hub in the snapshot at a date
  PitAt : (hub date : List ℕ) → Query

pub data Routed : Type 0 where
  -- the window of a body is to be loaded
  Load : (body : List ℕ) → Routed
  -- this is to be read
  Read : (query : Query) → Routed
  -- there is no such route
  NotFound : Routed
  -- the route has no such method, but these
  NotAllowed : (methods : Allowed) → Routed

-- the date of a request; one without has a date of no bytes
abbrev pub date_of : Request → List ℕ
date_of request = unwrap_or request.at []

-- what a request for a route that is only read asks for
abbrev pub if_get : Request → Query → Routed
if_get request query = if bytes_eq request.method (codes "GET") then Read query else NotAllowed Get

-- what a request for the windows asks for
abbrev pub windows_asked : Request → Routed
windows_asked request =
    if bytes_eq request.method (codes "GET") then Read Heads
    else (if bytes_eq request.method (codes "POST") then Load request.body else NotAllowed GetPost)

-- what a request for a route asks for
abbrev pub asked_at : Request → Route → Routed
asked_at request Windows = windows_asked request
asked_at request (Mart word) = if_get request (MartAt word (date_of request))
asked_at request (Table name) = if_get request (TableOf name)
asked_at request (Pit hub) = if_get request (PitAt hub (date_of request))
asked_at request NoRoute = NotFound

-- what a request asks for
abbrev pub asked : Request → Routed
asked request = asked_at request (route_of request.path)

-- ---- all of it, as the code has it

-- a route
abbrev pub route_as : Found → Route
route_as found.Windows = Windows
route_as (found.Mart word) = Mart word.now
route_as (found.Table name) = Table name.now
route_as (found.Pit hub) = Pit hub.now
route_as found.NoRoute = NoRoute

-- what is only read
abbrev pub query_as : GivenQuery → Query
query_as queries.Heads = Heads
query_as (queries.MartAt word date) = MartAt word.now date.now
query_as (queries.TableOf name) = TableOf name.now
query_as (queries.PitAt hub date) = PitAt hub.now date.now

-- what is asked for
abbrev pub asked_as : Given → Routed
asked_as (given.Load body) = Load body.now
asked_as (given.Read query) = Read (query_as query)
asked_as given.NotFound = NotFound
asked_as (given.NotAllowed methods) = NotAllowed methods
