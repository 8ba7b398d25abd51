-- What a fetch of the code says.
use Rattle.outside.specs.Fetched.{Fetched}
use Rattle.outside.specs.declared.fetches.Fetch.{Fetch}

abbrev pub fetched_of : Fetch → Fetched
fetched_of fetch = (fetch.name.now, fetch.came.now)
