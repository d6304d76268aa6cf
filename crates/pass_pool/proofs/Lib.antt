mod Staging
