use Rattle.gopher_catalogue.proofs.LegalSizes.{length-record_fits}
use Rattle.gopher_catalogue.proofs.laws.records_are_short.Goals as goal

pub returns : goal.returns
returns c = length-record_fits
