-- `Index::blank` meets its contract: both tables hold zeros alone.
use Rattle.distinct.proofs.Store.{no_links}
use Rattle.distinct.proofs.Index.blank.Goals as goal

pub returns : goal.returns
returns c = record { no_heads = no_links 4096; no_links = no_links 3449 }
