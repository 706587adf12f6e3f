-- Which texts are addresses of a database: http URLs with a host whose path is one segment, the database's name.
use Rattle.std.specs.Prelude.{ℕ, Bool, ◌&&◌, not, is_some, if◌then◌else◌, List, codes, Option, Some, None, option_map}
use Rattle.std.specs.Prelude.{option_and_then, unwrap_or, Result, Ok, Err}
use Rattle.std.specs.Str.{bytes_eq}
use Rattle.url.specs.Parser.{parse_url}
use Rattle.url.specs.Parts.{Parts, nonempty_host, has_credentials}
use Rattle.url.specs.Host.{host_text}
use Rattle.u1_base.specs.Ids.{id_in}
use Rattle.u1_base.specs.declared.ids.Form.TheVariants.{Name}
use Rattle.sync_http.specs.Slashes.{part_of, rest_of, is_empty}
use Rattle.sync_http.specs.declared.address.Address.{Address}

-- an http URL with no user name, password, query or fragment
abbrev pub is_plain : Parts → Bool
is_plain url =
    bytes_eq url.scheme (codes "http") && not (has_credentials url)
    && not (is_some url.query) && not (is_some url.fragment)

-- the database that a path of one segment names
abbrev pub database_in : List ℕ → Option (List ℕ)
database_in path = if is_empty (part_of path) then id_in Name (rest_of path) else None

abbrev pub at_host : Option (List ℕ) → ℕ → Option (List ℕ) → Option Address
at_host None port db = None
at_host (Some host) port None = None
at_host (Some host) port (Some db) = Some (record { host = host; port = port; db = db })

-- the address that a URL is, if it is one
abbrev pub address_of : Parts → Option Address
address_of url =
    if is_plain url
    then at_host (option_map host_text (nonempty_host url)) (unwrap_or url.port 80) (database_in url.path)
    else None

abbrev pub parts_in : {E : Type 0} → Result Parts E → Option Parts
parts_in (Ok url) = Some url
parts_in (Err fault) = None

-- the address that a text says, if it says one
abbrev pub address_in : List ℕ → Option Address
address_in text = option_and_then address_of (parts_in (parse_url None text))
