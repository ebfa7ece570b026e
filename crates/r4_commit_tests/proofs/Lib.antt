mod CommitTests
